pub mod PartByPart
pub mod Grown
pub mod Apart
pub mod Resume
pub mod Laws
pub mod Cases
