pub mod FunctionEntry
pub mod PassLaws
