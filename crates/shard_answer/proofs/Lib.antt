pub mod Gathering
pub mod Traps
pub mod Waits
pub mod Writes
pub mod Answering
pub mod Steps
