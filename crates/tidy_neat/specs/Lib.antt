-- Words for contracts and laws, and nothing to believe.
pub mod Neat
