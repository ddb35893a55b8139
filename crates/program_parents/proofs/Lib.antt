pub mod Numbers
pub mod Says
pub mod Own
pub mod Opened
pub mod Road
