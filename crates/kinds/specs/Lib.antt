pub mod rule
pub mod Code
pub mod Other
pub mod Settled
