pub mod Passes
pub mod Build
