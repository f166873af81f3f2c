pub mod Hears
pub mod Orders
pub mod Exactly
