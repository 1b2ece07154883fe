pub mod FieldLaws
pub mod PartLaws
