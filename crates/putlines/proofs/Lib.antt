pub mod Bounds
pub mod LineLaws
