pub mod Codes
pub mod Front
pub mod Verdicts
