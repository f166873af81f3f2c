pub mod Small
pub mod Matched
pub mod Overs
pub mod Zeros
