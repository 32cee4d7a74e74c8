pub mod Progression
pub mod Numbers
pub mod Dependences
pub mod Tasks
pub mod Named
pub mod Either
pub mod FaultNames
pub mod CallerLemmas
