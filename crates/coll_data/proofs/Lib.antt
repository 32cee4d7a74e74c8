pub mod TileIndex
pub mod OneIndex
pub mod Found
pub mod Replaced
pub mod ElementSums
pub mod CallerLemmas
