pub mod Marks
pub mod Names
pub mod First
pub mod Findings
