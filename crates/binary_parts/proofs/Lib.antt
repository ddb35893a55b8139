pub mod Taken
pub mod Closed
pub mod Listed
pub mod Both
pub mod Unpadded
pub mod Places
