pub mod PutsLaws
pub mod WritesLaws
pub mod DigitsLaws
pub mod LittleLaws
