-- Words for contracts and laws, and nothing to believe.
pub mod Sought
pub mod Hash
pub mod Seed
