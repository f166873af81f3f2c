-- The definitions that the contracts cite, and laws about them.
pub mod rule
pub mod Truth
pub mod Correction
