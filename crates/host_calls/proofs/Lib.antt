pub mod Entries
pub mod Pointwise
pub mod Replies
pub mod WasiTypes
