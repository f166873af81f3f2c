pub mod rule
pub mod Pass
pub mod Told
