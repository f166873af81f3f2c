pub mod rule
