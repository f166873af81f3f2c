pub mod Ident
pub mod Rest
pub mod Head
