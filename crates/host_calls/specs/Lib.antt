pub mod Replies
pub mod Embedders
pub mod Bindings
