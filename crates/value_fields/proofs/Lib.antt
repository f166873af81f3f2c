pub mod Bare
pub mod Plain
pub mod Stretch
pub mod Few
pub mod Legal
pub mod Values
pub mod Rows
