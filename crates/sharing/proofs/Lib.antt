pub mod Steps
pub mod RowSteps
