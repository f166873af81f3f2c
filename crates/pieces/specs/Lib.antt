pub mod rule
pub mod Scan
pub mod Pieces
pub mod Laid
