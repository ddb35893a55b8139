pub mod Admission
pub mod Few
pub mod Programs
