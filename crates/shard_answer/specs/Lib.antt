pub mod Ending
pub mod Parts
