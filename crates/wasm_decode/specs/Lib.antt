pub mod Given
pub mod Sections
pub mod Counts
pub mod Decoded
