pub mod Cutting
pub mod Forms
pub mod Reading
pub mod Twice
pub mod Texts
pub mod Rules
pub mod Commands
