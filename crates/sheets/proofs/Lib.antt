pub mod Parts
pub mod Rests
pub mod TypedRest
pub mod Fronts
pub mod Sifts
pub mod Rows9
pub mod Few
