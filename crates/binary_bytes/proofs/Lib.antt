pub mod Parts
pub mod Law
pub mod Room
