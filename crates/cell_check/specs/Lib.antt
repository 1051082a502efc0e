pub mod Judged
pub mod FieldLaws
pub mod CellLaws
pub mod HeapLaws
