pub mod ReachLaws
pub mod Bridge
pub mod Doing
pub mod Traced
pub mod Objects
pub mod Scanning
pub mod Adding
