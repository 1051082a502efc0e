pub mod Next
pub mod Moves
pub mod SplitSizes
pub mod SplitsChain
pub mod StartLaws
pub mod MoveLaws
pub mod Walks
