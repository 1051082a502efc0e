pub mod Rows
pub mod RowWordLaws
pub mod ToldLaws
pub mod NamedLaws
pub mod SumLaws
pub mod AgreeLaws
pub mod BindLaws
