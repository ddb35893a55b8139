pub mod Texts
pub mod All
