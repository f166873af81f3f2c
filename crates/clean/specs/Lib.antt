pub mod rule
pub mod Most
pub mod Law
