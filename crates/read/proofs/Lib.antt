pub mod Walking
pub mod AnswerCases
pub mod Fresh
