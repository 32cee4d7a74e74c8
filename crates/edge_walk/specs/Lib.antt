pub mod Ties
pub mod Walking
