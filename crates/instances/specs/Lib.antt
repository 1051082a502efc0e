pub mod Listed
pub mod Matches
pub mod ListLaws
pub mod FindLaws
pub mod WriteLaws
