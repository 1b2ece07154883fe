pub mod Check
pub mod Conditions
pub mod Edges
pub mod Failing
pub mod Tests
