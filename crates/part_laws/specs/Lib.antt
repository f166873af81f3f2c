pub mod rule
pub mod Exactly
pub mod Parts
pub mod Each
