pub mod Tokens
pub mod Values
pub mod Variables
