-- What the contracts of the public calls and the page of demands say, in reading order. Nothing else stands here.
pub mod Format
