pub mod WithinBounds
pub mod CallerLemmas
