pub mod Pieces
pub mod Strings
pub mod Exactly
pub mod Steps
pub mod Whole
pub mod Samples
