-- Words for contracts and laws, and nothing to believe.
pub mod Classes
pub mod Runs
