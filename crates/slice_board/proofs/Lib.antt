pub mod Lefts
pub mod Own
pub mod Going
pub mod Taking
pub mod Seating
pub mod Stuckless
pub mod Answering
