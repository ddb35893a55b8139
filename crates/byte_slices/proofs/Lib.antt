pub mod Lines
pub mod Over
pub mod Equal
pub mod Before
pub mod First
pub mod Pieces
pub mod Stands
pub mod Run
