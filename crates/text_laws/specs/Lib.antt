pub mod Cut
pub mod Breaks
pub mod Stand
pub mod Decoded
pub mod Same
pub mod Tables
