pub mod Steps
pub mod Values
pub mod Types
pub mod Instructions
pub mod Parts
pub mod Bodies
pub mod Sections
pub mod Laws
pub use Rattle.spec_binary.specs as spec_binary
pub use Rattle.spec_binary.specs.wasm_form as wasm_form
