pub mod Written
pub mod Code
pub mod Narrower
