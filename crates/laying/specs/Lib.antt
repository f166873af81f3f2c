pub mod rule
pub mod Begins
pub mod Code
