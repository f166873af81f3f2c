pub mod rule
pub mod Usual
