-- The devices of a run: its input, its two outputs, and the clock with the random words.
-- This profile: docs/DECISIONS.md, "The outside".
use Rattle.std.specs.Prelude.{◌≡◌, ◌≤◌, List, ℕ, ◌++◌, Option, Some, None, Result, Ok, Err, IsSomeAnd}
use Rattle.std.specs.Option.{ForSome}
use Rattle.dyl_outside.specs.declared.fault.IoFault.{IoFault}
use Rattle.dyl_outside.specs.declared.fault.IoFault.TheVariants.{Failed, Memory}
use Rattle.dyl_outside.specs.Source.{SourceState}
use Rattle.dyl_outside.specs.Sink.{SinkState, Puts}
use Rattle.dyl_outside.specs.Ambient.{AmbientState}

-- what is seen of them; the counts of faults are always told
pub record Devices : Type 0 where
  pub input : SourceState
  pub output : SinkState
  pub errors : SinkState
  pub ambient : AmbientState

abbrev pub devices : SourceState → SinkState → SinkState → AmbientState → Devices
devices input output errors ambient = record { input = input; output = output; errors = errors; ambient = ambient }

-- ---- what stays, whatever was done

-- what a sink held stays in front, and its count doesn't fall
pub record KeepsFront (old new : SinkState) : Type 0 where
  pub front : ForSome old.held (λ before. IsSomeAnd new.held (λ after. (gained : List ℕ) × (after ≡ before ++ gained)))
  pub count : old.faults ≤ new.faults

pub record KeepsFronts (old new : Devices) : Type 0 where
  pub output : KeepsFront old.output new.output
  pub errors : KeepsFront old.errors new.errors
  pub input : old.input.faults ≤ new.input.faults
  pub ambient : old.ambient.faults ≤ new.ambient.faults

-- ---- a line at the end

-- The line, if there is one, is put in one put, which may fail; without a line nothing is put.
abbrev pub PutsLine : Option (List ℕ) → SinkState → SinkState → Type 0
PutsLine None old new = new ≡ old
PutsLine (Some line) old new = (result : Result (Unit {0}) IoFault) × Puts line result old new × HadMemory result
  where
    HadMemory : Result (Unit {0}) IoFault → Type 0
    HadMemory (Ok done) = Unit {0}
    HadMemory (Err Failed) = Unit {0}
    HadMemory (Err Memory) = ⊥
