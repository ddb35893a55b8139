-- Words for contracts and laws, and nothing to believe.
pub mod Accepted
pub mod Kinds
pub mod Sizes
pub mod Placed
pub mod Sifted
