pub mod Starts
pub mod Cores
pub mod Singles
pub mod ModuleRuns
