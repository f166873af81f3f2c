pub mod Token
pub mod Grammar
pub mod Faults
pub mod Refusal
