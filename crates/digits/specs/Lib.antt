pub mod Room
pub mod Right
