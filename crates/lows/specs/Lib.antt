pub mod rule
pub mod Lows
