pub mod Errors
pub mod Inner
pub mod Look
pub mod Next
