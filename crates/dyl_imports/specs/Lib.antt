pub mod Few
pub mod Hosts
pub mod Kept
pub mod Refs
pub mod Uses
pub mod Weak
pub use Rattle.dyl_names.specs as dyl_names
pub use Rattle.dyl_scope.specs as dyl_scope
pub use Rattle.dyl_search.specs as dyl_search
pub use Rattle.dyl_section.specs as dyl_section
pub use Rattle.host_table.specs as host_table
pub use Rattle.wasm_check.specs as wasm_check
