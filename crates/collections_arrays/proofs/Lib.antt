pub mod ArrayLaws
pub mod PushLaws
