pub mod Totals
pub mod OneType
pub mod Places
pub mod Gathered
pub mod SeatedAll
pub mod Closed
pub mod Traced
pub mod CallerLemmas
