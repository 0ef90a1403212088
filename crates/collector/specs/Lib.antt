pub mod Sweep
pub mod Answer
pub mod Ending
