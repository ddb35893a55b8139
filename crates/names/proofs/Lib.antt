pub mod Short
pub mod References
pub mod NameEnds
pub mod Batched
pub mod Bound
pub mod Recoded
pub mod Named
pub mod Found
