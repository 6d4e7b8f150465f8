pub mod Entries
pub mod Numbering
mod DeclaredTypes
mod NumberEntries
