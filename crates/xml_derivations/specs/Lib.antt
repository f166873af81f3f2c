pub mod Tag
pub mod Derivation
pub mod Document
