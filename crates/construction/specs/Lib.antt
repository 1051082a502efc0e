pub mod FieldLaws
pub mod ConstructLaws
