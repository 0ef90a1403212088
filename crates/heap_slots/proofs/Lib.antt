pub mod Cases
pub mod HeaderLaws
pub mod LookupLaws
pub mod FreeListLaws
