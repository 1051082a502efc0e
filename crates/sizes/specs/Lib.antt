pub mod Promises
pub mod Prefixes
pub mod SizeLaws
pub mod TypeLaws
pub mod WordLaws
pub mod ConditionLaws
