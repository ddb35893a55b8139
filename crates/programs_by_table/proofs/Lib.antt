pub mod Corners
pub mod Facts
pub mod Finding
pub mod Same
pub mod Says
pub mod Tabled
