pub mod Lays
pub mod CellLaws
pub mod LayLaws
pub mod FieldsLaidLaws
pub mod ConstructorLaidLaws
pub mod InputsLaidLaws
