pub mod Orders
pub mod Status
pub mod Lines
pub mod Listing
pub mod Named
pub mod Summary
