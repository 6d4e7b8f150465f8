pub mod Stepping
pub mod Recording
pub mod Advancing
