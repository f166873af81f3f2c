pub mod rule
pub mod Stores
pub mod Sizes
pub mod Mend
pub mod Whole
