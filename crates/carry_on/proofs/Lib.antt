pub mod AnswerCases
pub mod Accepted
