pub mod Putting
pub mod Order
pub mod Founds
pub mod Zips
pub mod TableEntries
pub mod Building
