mod Types
mod Modules
mod Declared
mod Inside
mod Fitting
pub mod Begun
pub mod Fronts
pub use Rattle.spec_runtime.proofs.of_spec_runs as of_spec_runs
