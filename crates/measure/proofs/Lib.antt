pub mod Heights
pub mod Measures
pub mod Sizes
pub mod Trees
