-- What the contracts of the public calls say, in reading order. Nothing else stands here.
pub mod Word
pub mod Open
pub mod Element
pub mod Block
pub mod Role
pub mod Variable
pub mod Sheet
pub mod Whole
