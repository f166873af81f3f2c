pub mod rule
pub mod Lines
