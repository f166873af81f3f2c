pub mod Scanned
pub mod Loops
pub mod Tokens
pub mod Statements
pub mod Values
pub mod Fronts
pub mod Variables
pub mod Refusals
