pub mod Chains
pub mod Links
pub mod Passed
pub mod New
pub mod Unbarred
pub mod Extended
pub mod Grown
pub mod Example
