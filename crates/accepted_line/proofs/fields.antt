pub mod Runs
pub mod Here
pub mod NextField
pub mod Walked
pub mod Spread
pub mod Noted
pub mod Place
pub mod Start
