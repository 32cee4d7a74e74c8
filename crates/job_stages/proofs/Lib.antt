pub mod Once
pub mod Judged
pub mod CallerLemmas
