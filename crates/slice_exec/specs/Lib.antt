pub mod Executed
pub mod Playing
