pub mod Weighing
pub mod Looking
pub mod Sweeping
pub mod Contents
pub mod After
pub mod Ends
pub mod Promise
