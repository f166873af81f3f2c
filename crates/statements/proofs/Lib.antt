pub mod Notes
pub mod Helds
