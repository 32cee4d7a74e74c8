pub mod FarTasks
pub mod Walks
pub mod Linking
pub mod Places
pub mod Lookups
pub mod Potentials
pub mod Accepting
pub mod Whole
