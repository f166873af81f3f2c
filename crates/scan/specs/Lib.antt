pub mod rule
pub mod Text
pub mod Word
pub mod Number
pub mod Order
