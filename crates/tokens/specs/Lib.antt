pub mod rule
pub mod Gap
pub mod Token
pub mod Over
pub mod Spaces
