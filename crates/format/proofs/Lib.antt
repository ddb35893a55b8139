pub mod Ascii
pub mod Corners
pub mod Determined
pub mod Slots
pub mod CarryingExample
pub mod BinaryExample
