pub mod Arrivals
pub mod Slots
pub mod TileList
pub mod Stock
pub mod Content
pub mod Table
pub mod TableLends
pub mod Queue
