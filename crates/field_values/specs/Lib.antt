pub mod rule
pub mod Capped
pub mod Left
pub mod Guess
pub mod Exactly
pub mod Coded
pub mod Steps
pub mod Quick
