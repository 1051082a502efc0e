pub mod Checks
pub mod FinalLists
pub mod NeedLaws
pub mod Outcomes
pub mod ReadLaws
pub mod CheckLaws
pub mod AcceptsExactly
