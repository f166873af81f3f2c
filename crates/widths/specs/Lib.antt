pub mod rule
pub mod Width
