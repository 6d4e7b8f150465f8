pub mod Shape
pub mod MergedModule
pub mod Laws
