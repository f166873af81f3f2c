pub mod Plain
pub mod Stand
pub mod Each
pub mod Figures
pub mod Look
