pub mod Bytes
pub mod Definitions
pub mod Refused
pub mod Small
