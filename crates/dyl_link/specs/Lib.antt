pub mod Answers
pub mod Sets
pub mod Functions
pub mod Parts
pub mod Bounds
pub mod Duplicates
pub mod Faults
pub mod Laws
pub mod Limits
pub mod Steps
pub use Rattle.dyl_slots.specs.dyl_imports as dyl_imports
pub use Rattle.dyl_slots.specs.dyl_names as dyl_names
pub use Rattle.dyl_slots.specs.dyl_scope as dyl_scope
pub use Rattle.dyl_slots.specs.dyl_search as dyl_search
pub use Rattle.dyl_slots.specs.dyl_section as dyl_section
pub use Rattle.dyl_slots.specs.host_table as host_table
pub use Rattle.dyl_slots.specs.wasm_check as wasm_check
