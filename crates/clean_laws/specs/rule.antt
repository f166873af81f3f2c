-- What the laws say, in reading order. Nothing else stands here.
pub mod Texts
pub mod Reads
pub mod Lined
