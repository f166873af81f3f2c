pub mod rule
pub mod Both
