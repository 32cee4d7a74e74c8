pub mod Fitting
pub mod Completing
