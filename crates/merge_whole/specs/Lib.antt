pub mod Merges
pub mod Counts
pub mod Built
pub mod Given
pub mod Hosts
pub mod Elements
pub mod GlobalDefs
pub mod Parts
