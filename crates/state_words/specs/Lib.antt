pub mod Words
pub mod RowLaws
pub mod WriteLaws
pub mod Holds
pub mod HoldLaws
pub mod ReadLaws
pub mod StateLaws
