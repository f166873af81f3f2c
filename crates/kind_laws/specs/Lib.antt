pub mod rule
pub mod Leaves
pub mod Three
pub mod Numbers
pub mod Columns
pub mod Meet
