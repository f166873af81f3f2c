pub mod Whole
pub mod Counted
pub mod Nexts
