pub mod Sliding
pub mod SlideLaws
pub mod SweepLaws
pub mod FinishLaws
