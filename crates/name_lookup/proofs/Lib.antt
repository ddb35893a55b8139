pub mod Mapped
pub mod Looking
