pub mod Laws
pub mod Longest
pub mod Matching
pub mod Theory
