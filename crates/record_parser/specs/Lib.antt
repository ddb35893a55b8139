-- Words for contracts and laws, and nothing to believe.
pub mod Marks
pub mod Plain
