pub mod Walk
pub mod Lines
pub mod Entering
pub mod Firsts
