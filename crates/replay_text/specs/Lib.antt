pub mod Answers
pub mod Given
pub mod Stages
pub use Rattle.spec_traces.specs as spec_traces
