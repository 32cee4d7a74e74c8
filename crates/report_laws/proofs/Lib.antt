pub mod Indexes
pub mod Listing
pub mod TrapWords
pub mod PlanRows
