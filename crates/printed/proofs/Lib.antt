pub mod Accepted
pub mod Examples
pub mod Once
