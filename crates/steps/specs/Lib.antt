pub mod Step
pub mod Law
pub mod Quiet
