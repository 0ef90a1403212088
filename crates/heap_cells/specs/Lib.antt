pub mod Raw
pub mod Moves
pub mod Regions
