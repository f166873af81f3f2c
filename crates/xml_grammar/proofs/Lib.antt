pub mod Leaves
pub mod Blocks
pub mod Variables
pub mod Records
pub mod Surveys
pub mod Whole
