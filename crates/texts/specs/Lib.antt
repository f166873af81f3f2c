pub mod rule
pub mod Measured
