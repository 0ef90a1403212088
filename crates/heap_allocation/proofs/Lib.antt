pub mod MakeLaws
pub mod PlainLaws
pub mod RegionLaws
pub mod CoroutineLaws
pub mod FrameLaws
