pub mod rule
pub mod Books
pub mod Code
