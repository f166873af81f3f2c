pub mod Line
pub mod Room
pub mod Good
pub mod Order
pub mod Block
pub mod Range
pub mod Value
