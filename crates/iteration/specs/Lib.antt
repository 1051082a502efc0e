pub mod Promises
pub mod NodeLaws
pub mod NodesLaws
pub mod Whole
pub mod FedLaws
pub mod WholeLaws
