pub mod Snapshots
pub mod Parts
pub mod Laws
