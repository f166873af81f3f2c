pub mod Turns
pub mod Exactly
mod Usuals
mod Samples
