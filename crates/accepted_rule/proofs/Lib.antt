pub mod Lax
pub mod Rule
