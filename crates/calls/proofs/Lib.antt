pub mod OwnCatalogue
pub mod Located
pub mod Determined
