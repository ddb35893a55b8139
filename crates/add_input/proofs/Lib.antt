pub mod Value
pub mod Front
pub mod Text
pub mod InForm
pub mod Judged
pub mod Last
