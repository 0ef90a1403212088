pub mod Answers
pub mod Written
pub mod Changes
pub mod Beginning
pub mod Reading
