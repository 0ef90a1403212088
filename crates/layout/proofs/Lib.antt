pub mod Accepting
pub mod Parsed
pub mod Lookup
pub mod Checking
pub mod Writing
pub mod Listing
