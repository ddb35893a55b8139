pub mod Examples
pub mod Parsed
pub mod Schedule
pub mod RoundByRound
pub mod Big
pub mod Blocks
pub mod Padded
pub mod Laws
