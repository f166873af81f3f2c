pub mod rule
pub mod White
