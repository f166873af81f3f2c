mod Strings
pub mod Levels
pub mod Complete
pub mod Sound
pub mod Spellings
pub mod Comments
pub mod Endings
pub mod Parts
