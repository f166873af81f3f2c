pub mod Boundaries
pub mod Texts
pub mod Decoded
pub mod Tables
pub mod Sample
