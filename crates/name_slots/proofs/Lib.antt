pub mod Filling
pub mod Noted
