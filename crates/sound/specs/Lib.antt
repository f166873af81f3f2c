pub mod rule
pub mod Types
pub mod Block
pub mod Given
pub mod Values
pub mod Rows
pub mod Laid
