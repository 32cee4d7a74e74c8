pub mod ByFlow
pub mod StockLemmas
pub mod Candidates
pub mod Waiting
pub mod QueueLemmas
pub mod Searches
pub mod TableLemmas
pub mod CallerLemmas
