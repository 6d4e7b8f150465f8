pub mod Courses
pub mod Events
pub mod Programs
