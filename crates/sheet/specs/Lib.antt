pub mod Promise
pub mod Turns
pub mod Whole
