pub mod Tracing
pub mod Opened
pub mod Counting
pub mod Replaying
mod Gathered
mod Replayed
pub mod Lawful
pub mod Writing
