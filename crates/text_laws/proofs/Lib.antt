pub mod Numbers
pub mod Disjoint
mod ClosingMarks
mod Longest
mod WrittenForms
mod TokensOrFault
pub mod TreeOrFault
pub mod Exact
pub mod CallerLemmas
