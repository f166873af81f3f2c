pub mod rule
pub mod Exactly
pub mod Lines
pub mod Quoted
pub mod Apart
pub mod Numbers
