pub mod Units
pub mod Turns
pub mod TurnSteps
pub mod Blocks
pub mod CallerLemmas
