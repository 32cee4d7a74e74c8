pub mod Putting
pub mod Loops
pub mod Lines
pub mod Placing
pub mod CallerLemmas
