pub mod Texts
pub mod Traces
pub mod Lawful
pub mod Laws
pub mod Lines
pub mod Reading
pub use Rattle.dyl_print.specs as dyl_print
pub use Rattle.spec_execution.specs as spec_execution
pub use Rattle.spec_hosts.specs as spec_hosts
