pub mod Ending
pub mod SameRuns
