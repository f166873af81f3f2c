pub mod rule
pub mod Stride
pub mod Hull
