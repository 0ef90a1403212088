pub mod MoveLaws
pub mod SumLaws
pub mod RawLaws
pub mod LaidLaws
pub mod PackLaws
pub mod StringLaws
pub mod ShiftLaws
pub mod GrowLaws
