pub mod Recorded
pub mod Reading
pub mod Written
pub mod Laws
