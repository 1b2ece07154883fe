pub mod Escaped
pub mod Sizes
