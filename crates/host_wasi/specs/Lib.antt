pub mod Buffers
pub mod Wants
pub mod Uses
