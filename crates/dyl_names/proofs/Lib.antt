pub mod Entries
pub mod Only
