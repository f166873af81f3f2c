pub mod Cleaning
pub mod Sample
pub mod Odd
