pub mod rule
pub mod Import
