pub mod Measures
pub mod Snoc
