pub mod rule
pub mod Numbers
pub mod Matrix
pub mod Exactly
pub mod Kept
pub mod Summaries
pub mod Header
pub mod Sound
