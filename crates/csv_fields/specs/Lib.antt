pub mod rule
pub mod Page
