pub mod Data
pub mod Types
pub mod Tiles
pub mod WellMade
pub mod Replacing
pub mod Sums
