pub mod Element
pub mod Sizes
pub mod State
pub mod Meaning
pub mod Statement
