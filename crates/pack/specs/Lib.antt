-- The definitions of the image, passed on: their files are in crate `words`, below the crates whose functions read an image.
pub use Rattle.words.specs.Image
pub use Rattle.words.specs.Laid
