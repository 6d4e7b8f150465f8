pub mod Answers
pub mod StartUp
pub mod Added
pub mod Written
