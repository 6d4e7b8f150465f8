pub mod Words
pub mod Ready
pub mod Laws
pub mod Typed
pub mod Called
pub mod Listed
