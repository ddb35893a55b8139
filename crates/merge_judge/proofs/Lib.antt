pub mod Listed
pub mod Steps
