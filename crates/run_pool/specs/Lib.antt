pub mod Bytes
pub mod Elements
pub mod Desks
pub mod Seated
pub mod Gates
pub mod Runs
pub mod Traces
