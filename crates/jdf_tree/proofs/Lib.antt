pub mod Fine
pub mod Limits
pub mod Lists
pub mod Numbers
pub mod Predictive
pub mod TreeLimits
pub mod CallerLemmas
