pub mod Records
pub mod Taken
pub mod Unique
