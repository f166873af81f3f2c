-- What the laws of the import are said in, in reading order. Nothing else stands here.
pub mod Trip
pub mod Exported
pub mod Exactly
