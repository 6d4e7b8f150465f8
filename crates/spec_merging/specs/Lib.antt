pub mod Exports
pub use Rattle.wasm_form.specs as wasm_form
