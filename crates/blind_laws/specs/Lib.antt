pub mod rule
pub mod Rows
pub mod Fields
pub mod Blind
