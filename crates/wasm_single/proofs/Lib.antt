mod Seen
mod Telling
mod Calling
mod CoreSteps
pub mod Imports
mod Entries
mod Openings
pub mod Arguments
mod ModuleRuns
