pub mod Reach
pub mod Children
pub mod Marks
pub mod Adds
