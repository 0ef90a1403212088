pub mod Puts
pub mod Lines
pub mod Writes
