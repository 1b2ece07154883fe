pub mod Good
pub mod GoodParser
pub mod Laws
pub mod Sound
pub mod Sums
