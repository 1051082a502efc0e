pub mod Lowest
pub mod LowestLaws
pub mod Rows
pub mod RowLaws
pub mod Files
pub mod FileLaws
pub mod NextLaws
