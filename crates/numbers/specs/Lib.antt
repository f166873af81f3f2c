pub mod rule
pub mod Numeral
pub mod Room
