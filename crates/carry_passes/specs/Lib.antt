-- Words for contracts and laws, and nothing to believe.
pub mod Measured
pub mod From
pub mod NextLine
pub mod Steps
