pub mod TurnLaws
pub mod OperandLaws
pub mod ShownLaws
pub mod CommandLaws
pub mod PlayLaws
pub mod OpeningLaws
