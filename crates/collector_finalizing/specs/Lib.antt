pub mod Order
pub mod Dropped
pub mod Lent
