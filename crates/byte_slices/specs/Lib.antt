-- Words for contracts and laws, and nothing to believe.
pub mod Upto
pub mod Over
pub mod First
pub mod Stands
pub mod Run
