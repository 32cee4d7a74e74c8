pub mod Symbols
pub mod Meanings
pub mod Expressions
pub mod Refusals
