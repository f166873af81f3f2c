-- What the contracts of the public calls say, in reading order. Nothing else stands here.
pub mod Refused
pub mod Forms
pub mod Kinds
pub mod Others
pub mod Exactly
pub mod Reading
pub mod Faults
