pub mod Found
pub mod Matching
pub mod Scan
pub mod Token
