pub mod Taken
pub mod Value
pub mod Wide
