-- Words for contracts and laws, and nothing to believe.
pub mod Pruned
pub mod Left
pub mod Beside
pub mod Refuses
