pub mod Listed
pub mod RowNames
