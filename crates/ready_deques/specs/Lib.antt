pub mod Rule
pub mod Ends
pub mod Hands
pub mod Stolen
