pub mod rule
pub mod Facts
