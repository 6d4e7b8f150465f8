pub mod Bares
pub mod Runs
pub mod Kept
