-- What the contracts of the public calls say, in reading order. Nothing else stands here.
pub mod Result
pub mod Least
pub mod Token
pub mod Opening
pub mod Statement
pub mod Values
pub mod Variable
pub mod Whole
