pub mod rule
pub mod Bytes
pub mod Runs
pub mod Back
