-- What the contracts of the public calls say, in reading order. Nothing else stands here.
pub mod Bytes
pub mod Reference
pub mod Gap
pub mod Grammar
