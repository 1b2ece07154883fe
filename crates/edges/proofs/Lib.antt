pub mod RowLaws
pub mod TableLaws
