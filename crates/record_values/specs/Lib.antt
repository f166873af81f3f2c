-- The definitions that the contracts cite: the rule, and what the code keeps.
pub mod rule
pub mod Rows
pub mod Members
pub mod Room
pub mod Record
