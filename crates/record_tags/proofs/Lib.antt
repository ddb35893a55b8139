pub mod Firsts
pub mod Region
