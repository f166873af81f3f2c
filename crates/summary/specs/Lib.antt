pub mod rule
pub mod Laws
