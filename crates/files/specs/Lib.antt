pub mod rule
pub mod File
pub mod Tested
pub mod Passed
pub mod Known
