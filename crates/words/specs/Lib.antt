pub mod Image
pub mod Laid
