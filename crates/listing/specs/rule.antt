-- What the contracts of the public calls say, in reading order. Nothing else stands here.
pub mod Listing
pub mod Turns
pub mod Places
