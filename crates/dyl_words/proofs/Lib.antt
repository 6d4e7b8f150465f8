pub mod Rules
pub mod Values
pub mod Sorts
pub mod Walks
pub mod Runs
pub mod Commands
pub mod Asking
pub mod ZeroFree
