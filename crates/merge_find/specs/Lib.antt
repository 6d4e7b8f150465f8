pub mod Decisions
pub mod Building
pub mod Counted
pub mod Finding
pub mod Shape
pub mod Typed
pub mod Trying
pub mod Exports
