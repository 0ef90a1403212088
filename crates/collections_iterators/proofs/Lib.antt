pub mod IteratorLaws
pub mod VisitLaws
pub mod BeginLaws
