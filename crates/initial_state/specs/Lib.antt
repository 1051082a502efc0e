pub mod Promises
pub mod LayLaws
pub mod StateLaws
