pub mod Found
pub mod Fresh
pub mod Given
pub mod Limits
pub mod Outside
pub mod Placings
pub mod Regions
pub mod Tables
pub mod Wanted
pub use Rattle.dyl_imports.specs as dyl_imports
pub use Rattle.dyl_imports.specs.dyl_names as dyl_names
pub use Rattle.dyl_plan.specs as dyl_plan
pub use Rattle.dyl_imports.specs.dyl_scope as dyl_scope
pub use Rattle.dyl_imports.specs.dyl_search as dyl_search
pub use Rattle.dyl_imports.specs.dyl_section as dyl_section
pub use Rattle.dyl_imports.specs.host_table as host_table
pub use Rattle.dyl_imports.specs.wasm_check as wasm_check
