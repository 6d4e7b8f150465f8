pub mod Stretches
pub mod Few
