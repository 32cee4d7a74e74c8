pub mod Word
pub mod Stamps
pub mod Handed
pub mod Records
pub mod Claims
pub mod Sends
pub mod Looks
