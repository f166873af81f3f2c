pub mod Front
pub mod Law
