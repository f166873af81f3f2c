pub mod Texts
pub mod Words
pub mod Runs
pub mod Loops
pub mod Keywords
pub mod Orders
