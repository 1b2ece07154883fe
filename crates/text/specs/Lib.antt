pub mod Bytes
pub mod Decimal
pub mod Fields
pub mod Form
pub mod Reader
pub mod Reform
pub mod Writer
