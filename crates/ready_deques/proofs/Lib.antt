pub mod Sums
pub mod Keeps
pub mod Outcomes
pub mod Accounts
pub mod Rows
pub mod Settled
pub mod Pair
pub mod Slotted
