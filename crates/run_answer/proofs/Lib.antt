pub mod Sorting
pub mod Replacing
pub mod Writable
pub mod CallerLemmas
