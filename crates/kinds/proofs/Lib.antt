pub mod Plain
pub mod Roads
pub mod Rooms
