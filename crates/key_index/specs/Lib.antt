-- Words for contracts and laws, and nothing to believe.
pub mod KeySlots
pub mod Keyed
pub mod HeldKeys
pub mod Counting
