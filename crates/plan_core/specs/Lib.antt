pub mod Place
pub mod Closed
pub mod Kinds
pub mod NamesByNumber
pub mod Targets
pub mod Flows
pub mod Bodies
pub mod WellMade
