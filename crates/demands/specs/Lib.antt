pub mod Demands
pub mod Fields
