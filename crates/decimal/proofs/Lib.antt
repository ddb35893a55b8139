pub mod Front
pub mod Whole
pub mod Written
pub mod OverBack
pub mod ReadBack
pub mod Refused
