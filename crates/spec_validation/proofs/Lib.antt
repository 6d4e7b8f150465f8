pub mod Levels
pub mod Names
pub mod Parts
pub mod Constants
mod ConstantRows
pub use Rattle.spec_binary.proofs as of_spec_binary
pub use Rattle.spec_binary.proofs.of_wasm_form as of_wasm_form
