mod Least
mod Ordered
mod AllThere
mod NamesResolved
mod FlowsResolved
mod Readings
pub mod ClassesResolved
pub mod Resolved
pub mod Types
pub mod Targets
pub mod Flows
pub mod CallerLemmas
