pub mod Declarations
pub mod Renaming
pub mod Laws
pub mod MoreUnits
