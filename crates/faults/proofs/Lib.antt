pub mod AnswerCases
