pub mod Answer
pub mod Many
pub mod Ready
