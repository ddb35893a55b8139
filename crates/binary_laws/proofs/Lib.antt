pub mod Low
pub mod Apart
pub mod Refusal
pub mod Tidied
