pub mod HeaderLines
pub mod Behind
pub mod Laws
pub mod Cases
