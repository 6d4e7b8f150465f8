pub mod Devices
pub mod Calls
pub mod Hosted
pub mod Allowed
pub mod Laws
pub mod Ends
pub use Rattle.dyl_outside.specs as dyl_outside
pub use Rattle.spec_runtime.specs.spec_binary as spec_binary
pub use Rattle.spec_runtime.specs.spec_runs as spec_runs
pub use Rattle.spec_runtime.specs as spec_runtime
pub use Rattle.spec_runtime.specs.wasm_form as wasm_form
