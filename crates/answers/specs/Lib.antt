pub mod Shows
pub mod Promise
