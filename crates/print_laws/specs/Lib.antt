pub mod Same
pub mod ReadsBack
pub mod Spelled
