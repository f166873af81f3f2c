pub mod rule
pub mod Stride
