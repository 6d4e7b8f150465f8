pub mod Next
pub mod Cores
