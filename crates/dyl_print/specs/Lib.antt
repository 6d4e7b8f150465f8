pub mod Printed
pub use Rattle.spec_hosts.specs as spec_hosts
