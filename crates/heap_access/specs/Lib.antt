pub mod Answers
pub mod Objects
