pub mod Few
pub mod Begins
pub mod Turns
pub mod Lists
pub mod Rans
pub mod Settles
pub mod Wholes
