pub mod Grammar
pub mod Reader
pub mod Meaning
pub mod Behind
pub mod Loops
pub mod Surveys
pub mod Words
pub mod Whole
