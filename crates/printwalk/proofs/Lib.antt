pub mod Bytes
pub mod Walks
