pub mod Next
pub mod Last
pub mod Accepted
pub mod Listed
pub mod Same
pub mod Lent
