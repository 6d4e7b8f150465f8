pub mod StartUp
pub mod Formed
pub mod Made
pub mod AddedLists
pub mod Places
pub mod Answered
