pub mod Spelled
pub mod Apart
pub mod Elems
pub mod Datas
pub mod Merged
pub mod Short
