pub mod Numbering
pub mod Kept
pub mod Lists
pub mod Laws
