pub mod Demands
pub mod Carried
pub mod Sheets
