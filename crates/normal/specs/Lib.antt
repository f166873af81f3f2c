pub mod rule
pub mod Settle
