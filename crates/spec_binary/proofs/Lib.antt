pub mod UnsignedSpelling
pub mod SignedSpelling
pub mod NameSpelling
pub mod Joined
pub mod Options
pub mod Lists
pub mod Locals
pub mod OneType
pub mod SpelledItems
pub mod SpelledParts
pub mod Counted
pub use Rattle.wasm_form.proofs as of_wasm_form
