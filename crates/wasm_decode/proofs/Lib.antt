pub mod Bodies
pub mod Chain
pub mod Answered
pub mod DataNames
pub mod Headers
