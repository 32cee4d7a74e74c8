pub mod Moment
pub mod Share
pub mod Placing
pub mod Reserve
pub mod Calm
pub mod Opening
