pub mod Again
pub mod Whiles
