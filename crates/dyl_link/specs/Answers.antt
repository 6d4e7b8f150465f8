-- What linking answers, beside the fault that a set has.
-- Serves the contracts of this crate, which follow Links of `spec_linking`.
pub use Rattle.dyl_slots.specs.dyl_names.Findings.{IsFirst, Tells}
