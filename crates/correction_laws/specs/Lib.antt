-- The laws of a list of corrections.
pub mod rule
pub mod Singles
pub mod Outcomes
pub mod Later
