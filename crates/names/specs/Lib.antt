pub mod rule
pub mod Name
pub mod Clash
pub mod Standard
