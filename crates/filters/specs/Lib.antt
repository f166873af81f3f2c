pub mod rule
pub mod Code
pub mod Sums
