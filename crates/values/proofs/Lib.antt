pub mod Facts
pub mod Rooms
pub mod Lists
pub mod Shares
pub mod Goods
pub mod Orders
pub mod Nexts
