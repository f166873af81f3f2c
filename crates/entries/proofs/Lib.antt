pub mod Heads
pub mod Spreads
pub mod Tellings
pub mod Columns
pub mod Entries
pub mod Goods
