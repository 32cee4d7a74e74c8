pub mod Terminals
pub mod Codes
pub mod Sets
pub mod Counted
pub mod Reading
pub mod Spelling
pub mod Tokens
