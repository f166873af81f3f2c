pub mod rule
pub mod Marks
pub mod Sets
pub mod Few
pub mod Alike
pub mod Full
