mod Lists
mod Constants
mod Segments
mod Applied
pub mod Opens
pub mod Begins
pub mod System
mod Identity
mod Faultless
pub mod Valid
