pub mod PoolLemmas
pub mod Lending
pub mod FlowSizes
pub mod Arriving
pub mod Laying
pub mod Ending
pub mod CallerLemmas
