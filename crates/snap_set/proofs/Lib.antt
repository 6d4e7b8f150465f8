mod Agreement
mod Silent
mod Matched
pub mod References
pub mod Snapped
pub mod Bottom
mod First
mod HeldGlobals
mod HeldTables
mod HeldSegments
mod HeldParts
mod Spelled
