pub mod None
pub mod Law
pub mod Early
pub mod First
