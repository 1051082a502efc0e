pub mod Boards
pub mod LendLaws
pub mod JudgeLaws
