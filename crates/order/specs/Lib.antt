pub mod Quick
pub mod Rows
pub mod Shape
