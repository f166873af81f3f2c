pub mod rule
pub mod Row
