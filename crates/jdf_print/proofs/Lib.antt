pub mod Separated
mod Lines
pub mod CallerLemmas
