pub mod rule
pub mod Cell
pub mod Order
