pub mod rule
pub mod Tops
pub mod Writing
pub mod ReadBack
pub mod Settled
pub mod WriteBack
