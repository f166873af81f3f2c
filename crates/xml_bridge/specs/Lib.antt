pub mod Book
pub mod Settle
pub mod Fine
pub mod Good
pub mod Table
