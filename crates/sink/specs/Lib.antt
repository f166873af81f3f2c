pub mod rule
pub mod Sent
pub mod Stored
