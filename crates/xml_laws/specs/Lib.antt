pub mod Reads
pub mod Values
pub mod Parts
pub mod Entries
pub mod Sheets
