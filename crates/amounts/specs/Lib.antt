pub mod rule
pub mod Filled
pub mod Parts
