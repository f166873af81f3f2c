pub mod rule
pub mod Room
