pub mod SlotCount
pub mod Indexed
pub mod Path
pub mod Passing
