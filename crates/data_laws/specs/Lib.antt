pub mod WholeRecords
pub mod Codes
pub mod WholeTexts
pub mod Integers
