-- The rules of the shape, passed on: their file is in crate `parserules`, below the crates whose functions test them.
pub use Rattle.parserules.specs.Rules
