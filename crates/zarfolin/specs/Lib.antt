-- The definitions that the face's contracts cite.
pub mod rule
pub mod Version
pub mod Settled
pub mod Whole
