pub mod rule
pub mod Room
pub mod Low
pub mod Exactly
pub mod Output
