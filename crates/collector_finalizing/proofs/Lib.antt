pub mod OrderLaws
pub mod Merging
pub mod Halving
pub mod Filling
pub mod Listing
pub mod Keeping
pub mod Found
pub mod Finalized
