pub mod Found
pub mod Promoted
