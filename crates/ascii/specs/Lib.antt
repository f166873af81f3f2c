pub mod rule
pub mod Class
pub mod Tens
