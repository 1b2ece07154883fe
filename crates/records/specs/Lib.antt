pub mod Inner
pub mod Parse
