-- Words for contracts and laws, and nothing to believe.
pub mod Lookup
pub mod CallAnswers
