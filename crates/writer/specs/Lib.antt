pub mod Writes
pub mod LineLaws
pub mod LinesLaws
pub mod FileLaws
