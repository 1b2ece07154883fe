-- The laws of the shape and what a good one gives, passed on: their files are in crate `order`.
pub use Rattle.order.proofs.Good
pub use Rattle.order.proofs.GoodParser
pub use Rattle.order.proofs.Laws
