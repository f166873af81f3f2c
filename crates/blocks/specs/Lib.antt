pub mod Code
pub mod Lines
