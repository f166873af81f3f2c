pub mod rule
pub mod Names
