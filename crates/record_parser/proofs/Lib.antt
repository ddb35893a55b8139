pub mod Dispatch
pub mod FieldByField
pub mod Made
pub mod Walked
pub mod Step
pub mod Alone
