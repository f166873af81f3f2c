pub mod rule
pub mod Csv
