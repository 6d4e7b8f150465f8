pub mod Answers
pub mod Contexts
pub mod GroupEnds
pub mod States
pub mod Layout
pub mod Blocks
pub mod Shapes
