pub mod Beginnings
pub mod Pieces
pub mod Follows
pub mod Ends
pub mod Once
