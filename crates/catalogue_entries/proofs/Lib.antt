pub mod Written
pub mod Records
pub mod Walk
pub mod Found
pub mod Example
