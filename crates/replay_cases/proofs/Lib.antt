-- The laws that several functions of this crate share.
pub mod Whole
pub mod Digits
pub mod Words
