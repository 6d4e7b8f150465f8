pub mod Names
pub mod Orders
pub mod Definers
pub mod Scopes
pub mod Kept
