pub mod Runs
pub mod LentLaws
pub mod IterateLaws
