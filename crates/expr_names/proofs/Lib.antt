pub mod Together
pub mod Closed
pub mod CallerLemmas
