-- What the contracts of the public calls say, in reading order. Nothing else stands here.
pub mod Face
pub mod Part
pub mod Matrix
pub mod Export
pub mod Import
pub mod Truth
pub mod Version
pub mod Whole
pub mod Texts
pub mod Normal
pub mod Mend
pub mod Clean
