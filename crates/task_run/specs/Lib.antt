pub mod Pools
pub mod PoolList
pub mod Bench
pub mod Start
pub mod OneStart
