pub mod ReadingLaws
pub mod RegionLaws
pub mod EntryLaws
pub mod ItemLaws
pub mod GrowthLaws
