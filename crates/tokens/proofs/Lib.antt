pub mod Gaps
pub mod Closings
pub mod Leads
pub mod Values
pub mod Aheads
pub mod Spaces
