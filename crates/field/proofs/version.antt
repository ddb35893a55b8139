pub mod Sides
pub mod Refused
