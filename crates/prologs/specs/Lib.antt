pub mod rule
pub mod Pair
