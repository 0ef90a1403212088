pub mod Parse
pub mod Reads
pub mod Lines
pub mod Replay
pub mod Turns
