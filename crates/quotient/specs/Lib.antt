pub mod rule
pub mod Limits
pub mod Exact
pub mod Order
pub mod Examples
