pub mod rule
pub mod Complete
pub mod Sound
