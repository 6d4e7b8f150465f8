-- What a test of linking answers, beside what is found.
-- Serves the contracts of this crate, which follow Links of `spec_linking`.
use Rattle.std.specs.Prelude.{◌≡◌, ◌≢◌, Some, None, Result, Ok, Err}
use Rattle.spec_linking.specs.declared.fault.LinkFault.{LinkFault}
use Rattle.spec_linking.specs.declared.fault.LinkFault.TheVariants.{Memory}
use Rattle.spec_linking.specs.Links.{Finding}

-- the fault is the one that is found, unless memory ran out
abbrev pub IsFirst : LinkFault → Finding → Type 0
IsFirst fault found = fault ≢ Memory → found ≡ Some fault

-- What a test answers where this is found: Ok where nothing is, and otherwise what is found; or that memory ran out.
abbrev pub Tells : {A : Type 0} → Result A LinkFault → Finding → Type 0
Tells (Ok x) found = found ≡ None
Tells (Err fault) found = IsFirst fault found
