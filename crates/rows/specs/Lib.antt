pub mod rule
pub mod Cells
