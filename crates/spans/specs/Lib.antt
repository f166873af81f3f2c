pub mod rule
pub mod Figures
