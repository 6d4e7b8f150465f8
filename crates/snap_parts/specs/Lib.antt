pub mod Found
pub mod Zips
pub mod Segments
pub mod Sections
pub mod Built
pub mod Made
