pub mod Given
pub mod Bodies
pub mod Globals
pub mod Classes
pub mod Check
pub mod Plans
pub mod Laws
