pub mod NextEntry
pub mod Names
