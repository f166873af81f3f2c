pub mod rule
pub mod Kinds
pub mod Note
pub mod Opening
pub mod Position
pub mod Size
pub mod Spread
