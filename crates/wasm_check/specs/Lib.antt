pub mod Answers
pub mod Inside
pub mod Spaces
pub mod Marks
pub mod Heights
pub mod Constants
pub mod Counts
pub mod Exports
