-- Words for contracts and laws, and nothing to believe.
pub mod Pieces
pub mod Sound
pub mod Spelled
pub mod Clean
pub mod Admits
pub mod Read
pub mod First
pub mod Ended
