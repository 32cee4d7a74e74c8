pub mod Places
pub mod CallerLemmas
