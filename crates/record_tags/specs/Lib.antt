-- Words for contracts and laws, and nothing to believe.
pub mod Others
pub mod Occurs
