pub mod Entry
pub mod Good
