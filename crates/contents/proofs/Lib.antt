mod Bounds
pub mod Views
pub mod Goes
pub mod Pieces
mod Passing
pub mod Exactly
mod Walking
pub mod Tellings
