pub mod rule
pub mod Claims
pub mod Known
pub mod Pairs
pub mod Follow
