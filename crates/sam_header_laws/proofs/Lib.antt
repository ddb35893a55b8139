pub mod Fresh
pub mod Within
pub mod Tells
pub mod Additions
