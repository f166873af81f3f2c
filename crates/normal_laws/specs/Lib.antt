pub mod rule
pub mod PlainBytes
pub mod Turns
pub mod Normal
pub mod Exactly
pub mod Samples
