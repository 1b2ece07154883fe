-- The definition of the shape, passed on: its file is in crate `order`, below the crates whose functions test it.
pub use Rattle.order.specs.Shape
