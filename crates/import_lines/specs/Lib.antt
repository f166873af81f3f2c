pub mod Undoubled
pub mod Short
pub mod Walk
pub mod Judge
pub mod Build
