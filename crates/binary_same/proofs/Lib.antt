pub mod Alike
pub mod NextReference
