pub mod Page
pub mod Law
pub mod Digit
pub mod Stand
