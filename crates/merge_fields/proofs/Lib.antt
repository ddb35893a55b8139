pub mod KeptFields
pub mod Walks
