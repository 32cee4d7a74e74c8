pub mod TaskWalks
pub mod OpeningSteps
pub mod Opened
pub mod CallerLemmas
