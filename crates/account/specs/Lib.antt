pub mod Account
pub mod AccountLaws
