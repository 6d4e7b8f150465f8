mod Aligns
mod Definers
mod Greatest
mod OneMore
mod Told
mod Parts
pub mod Indices
mod Findings
mod OutsideSlots
pub mod InitialValues
mod NamedFunctions
mod Sound
mod Pages
pub mod SetHosts
mod SupportedHosts
