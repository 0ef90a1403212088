pub mod ObjectLaws
pub mod ReadingLaws
pub mod FrameLaws
pub mod ReadCalls
pub mod BufferLaws
pub mod StoringLaws
pub mod RuleLaws
pub mod StoreCalls
