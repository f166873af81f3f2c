pub mod Items
pub mod Whole
pub mod Fine
pub mod Read
