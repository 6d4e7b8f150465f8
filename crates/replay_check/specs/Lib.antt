pub mod Checks
pub mod Following
pub mod Laws
pub mod Recording
