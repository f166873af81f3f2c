pub mod Measures
pub mod Outcomes
pub mod Shorts
