pub mod Same
pub mod Standing
pub mod Nth
pub mod Cells
pub mod Rows
pub mod Built
pub mod Sample
