-- Words for contracts and laws, and nothing to believe.
pub mod Answers
pub mod Facts
pub mod Plans
pub mod Same
