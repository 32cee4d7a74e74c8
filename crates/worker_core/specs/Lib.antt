pub mod Claiming
pub mod Sending
pub mod Starting
pub mod Waiting
pub mod Working
