pub mod Early
pub mod Determined
