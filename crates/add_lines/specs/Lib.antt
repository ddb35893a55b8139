-- Words for contracts and laws, and nothing to believe.
pub mod Line
pub mod Lines
