pub mod rule
pub mod Values
pub mod Listing
pub mod Turns
pub mod RowLaws
pub mod Places
pub mod Pages
