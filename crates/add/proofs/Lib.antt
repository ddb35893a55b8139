pub mod Sizes
pub mod Texts
pub mod Prior
pub mod On
pub mod Adding
pub mod Measured
