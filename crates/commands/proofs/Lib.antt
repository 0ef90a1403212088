pub mod RowLaws
pub mod ShapeLaws
pub mod ActLaws
pub mod ReadLaws
pub mod ListLaws
pub mod TurnLaws
pub mod Refused
