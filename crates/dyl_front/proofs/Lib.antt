pub mod Numbers
pub mod BoardLines
pub mod Items
pub mod Ranges
pub mod Listings
pub mod SlotLines
pub mod FirstNames
pub mod MemberFunctions
