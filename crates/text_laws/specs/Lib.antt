pub mod Forms
pub mod ExactReading
