pub mod Turns
pub mod Boards
pub mod BoardRuns
pub mod Laws
pub mod Played
