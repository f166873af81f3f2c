pub mod Runs
pub mod Stretches
pub mod Gaps
pub mod References
pub mod Whites
