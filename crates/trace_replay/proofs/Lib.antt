pub mod Following
pub mod Turned
pub mod Judged
pub mod CallerLemmas
