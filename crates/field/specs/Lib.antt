-- Words for contracts and laws, and nothing to believe.
pub mod Parsed
pub mod Taken
pub mod Spelled
