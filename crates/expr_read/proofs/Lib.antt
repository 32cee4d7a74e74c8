pub mod Answer
pub mod Brief
pub mod Ending
pub mod Windows
pub mod InWindow
pub mod Loops
pub mod Named
pub mod CallerLemmas
