pub mod Rows
pub mod OwnCatalogue
pub mod Laws
