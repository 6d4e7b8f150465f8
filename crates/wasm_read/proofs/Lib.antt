pub mod Fronts
pub mod Loops
pub mod Bits
pub mod Instructions
