-- What the laws say, in reading order. Nothing else stands here.
pub mod Exactly
pub mod Quoted
