pub mod Samples
pub mod Shares
