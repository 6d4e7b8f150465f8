pub mod Keeping
pub mod Started
