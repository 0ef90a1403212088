pub mod Answers
pub mod Beginning
pub mod Visits
pub mod Reading
