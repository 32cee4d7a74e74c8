pub mod Faults
pub mod Files
pub mod Load
pub mod Reads
pub mod Memory
