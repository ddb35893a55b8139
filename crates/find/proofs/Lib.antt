pub mod Front
pub mod SearchSteps
pub mod OwnCatalogue
pub mod Laws
pub mod Names
