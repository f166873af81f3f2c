-- What the contracts of the public calls say, in reading order. Nothing else stands here.
pub mod Legal
pub mod Number
pub mod Field
pub mod Row
