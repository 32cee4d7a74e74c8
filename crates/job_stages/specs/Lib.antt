pub mod DataText
pub mod Stages
pub mod Verdict
pub mod Fitting
pub mod Laws
