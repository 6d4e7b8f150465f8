pub mod Lookups
pub mod Resolved
pub mod Distinct
pub mod Walks
pub mod Reached
pub mod Told
pub mod OwnData
pub mod Noted
