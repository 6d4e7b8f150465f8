pub mod Sets
pub mod Bases
pub mod Offsets
pub mod Lists
pub mod Globals
pub mod Kept
