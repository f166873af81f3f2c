pub mod Left
pub mod Words
pub mod Runs
pub mod Strings
pub mod Lines
