pub mod Comparisons
mod DecimalDigits
pub mod Refusals
pub mod SmallTiles
pub mod CallerLemmas
