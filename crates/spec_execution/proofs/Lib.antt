pub mod Segments
pub mod Constants
pub use Rattle.spec_validation.proofs.of_spec_binary as of_spec_binary
pub use Rattle.spec_runtime.proofs.of_spec_runs as of_spec_runs
pub use Rattle.spec_runtime.proofs as of_spec_runtime
pub use Rattle.spec_validation.proofs as of_spec_validation
pub use Rattle.spec_validation.proofs.of_wasm_form as of_wasm_form
