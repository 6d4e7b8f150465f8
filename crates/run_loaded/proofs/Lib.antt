pub mod Growth
pub mod Hosts
pub mod Openings
mod Sets
mod Singles
pub mod Waiting
pub use Rattle.spec_hosts.proofs.of_spec_runs as of_spec_runs
