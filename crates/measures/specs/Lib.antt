pub mod Width
pub mod Good
pub mod Survey
