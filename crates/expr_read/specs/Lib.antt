pub mod Precedences
pub mod Front
