pub mod Kinds
pub mod Limits
pub mod Eight
pub mod Scalars
pub mod Header
pub mod Lookup
pub mod FreeList
