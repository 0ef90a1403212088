pub mod MapLaws
pub mod WriteLaws
pub mod MapStoreLaws
pub mod ChangeLaws
pub mod InsertLaws
pub mod RemoveLaws
pub mod GrownLaws
pub mod BeginLaws
