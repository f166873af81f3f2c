pub mod Places
mod Charges
mod Binds
