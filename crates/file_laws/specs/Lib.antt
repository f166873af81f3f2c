pub mod rule
pub mod Only
pub mod Files
