pub mod rule
pub mod Sizes
