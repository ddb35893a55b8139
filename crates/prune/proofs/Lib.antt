pub mod Chosen
pub mod Pruning
