-- What the theorems say, in reading order. Nothing else stands here.
pub mod Singles
pub mod Outcomes
