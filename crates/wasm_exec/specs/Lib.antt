pub mod Driving
pub mod Executed
