pub mod Known
pub mod Meanings
pub mod Settings
pub mod Replays
