pub mod rule
pub mod Uses
