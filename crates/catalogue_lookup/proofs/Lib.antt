pub mod Walks
pub mod Kept
pub mod Answers
pub mod CallAnswers
