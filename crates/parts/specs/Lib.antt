pub mod rule
pub mod Part
