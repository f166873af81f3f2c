pub mod Hearing
pub mod Numbers
pub mod Words
