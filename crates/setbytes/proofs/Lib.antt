pub mod SpreadSteps
pub mod BitSteps
pub mod JudgeSteps
pub mod AllSteps
