pub mod Making
pub mod Frames
pub mod Coroutines
