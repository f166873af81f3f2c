pub mod Numbers
pub mod Cases
pub mod Leftmost
pub mod Samples
pub mod Values
pub mod Alone
pub mod Placed
pub mod Refused
