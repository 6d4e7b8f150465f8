pub mod Names
pub mod Answers
pub mod Table
pub mod Numbers
pub mod Numbered
