pub mod WellData
pub mod Always
pub mod Judged
pub mod Spelled
pub mod CallerLemmas
