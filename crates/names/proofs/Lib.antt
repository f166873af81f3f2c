pub mod Keys
pub mod Clashes
pub mod Capitals
pub mod Standards
pub mod Plains
