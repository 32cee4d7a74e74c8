pub mod Sums
pub mod WellFlows
pub mod CallerLemmas
