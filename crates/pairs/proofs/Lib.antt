pub mod Lies
pub mod Stands
pub mod Given
pub mod Tags
pub mod Ends
