pub mod Forms
pub mod Words
pub mod Clap
pub mod Shown
