-- Words for contracts and laws, and nothing to believe.
pub mod Listed
pub mod Parents
pub mod Leafed
