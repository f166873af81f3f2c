pub mod rule
pub mod Value
pub mod Tables
