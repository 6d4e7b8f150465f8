-- What a check answers, beside the fault that a module has.
-- Serves the contracts of this crate, which follow Faults of `spec_validation`.
use Rattle.std.specs.Prelude.{◌≡◌, ◌≢◌, Some, None, Result, Ok, Err}
use Rattle.spec_execution.specs.spec_validation.declared.fault.CheckFault.{CheckFault}
use Rattle.spec_execution.specs.spec_validation.declared.fault.CheckFault.TheVariants.{Memory}
use Rattle.spec_execution.specs.spec_validation.Faults.{Finding}

-- the fault is the one that is found, unless memory ran out
abbrev pub IsFirst : CheckFault → Finding → Type 0
IsFirst fault found = fault ≢ Memory → found ≡ Some fault

-- What a check answers where this is found: Ok where nothing is, and otherwise what is found; or that memory ran out.
abbrev pub ChecksTo : {A : Type 0} → Result A CheckFault → Finding → Type 0
ChecksTo (Ok x) found = found ≡ None
ChecksTo (Err fault) found = IsFirst fault found
