pub mod Seen
pub mod Spaces
pub mod WordsAgain
pub mod NamesAgain
pub mod LinesAgain
pub mod TraceLines
pub use Rattle.spec_execution.proofs.of_spec_binary as of_spec_binary
