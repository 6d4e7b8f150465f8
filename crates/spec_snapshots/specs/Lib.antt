pub mod Causes
pub mod Stretches
pub mod Snapshots
pub mod Laws
