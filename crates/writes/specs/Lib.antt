pub mod rule
pub mod Write
