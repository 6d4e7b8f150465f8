pub mod Tracing
pub mod Written
pub mod Laws
