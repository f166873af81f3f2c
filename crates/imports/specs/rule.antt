-- What the contracts of the public calls say, in reading order. Nothing else stands here.
pub mod Import
