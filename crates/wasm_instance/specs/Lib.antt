pub mod Imports
pub mod Constants
pub mod States
pub mod Rooms
pub mod Kept
pub mod Opening
pub mod Copies
