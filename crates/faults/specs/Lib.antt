pub mod rule
pub mod Joined
