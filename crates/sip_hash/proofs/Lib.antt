pub mod Turns
pub mod Last
pub mod Examples
pub mod Laws
