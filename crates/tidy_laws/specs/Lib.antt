-- Words for contracts and laws, and nothing to believe.
pub mod Bare
pub mod Line
pub mod Writable
pub mod Gathered
pub mod Faithful
