-- What a test against a limit answers.
-- Serves the contracts of this crate, which follow Links of `spec_linking`.
use Rattle.std.specs.Prelude.{◌≡◌, ◌≢◌, Option, Some, None, Result, Ok, Err}
use Rattle.spec_loading.specs.spec_linking.declared.fault.LinkFault.{LinkFault}
use Rattle.spec_loading.specs.spec_linking.declared.fault.LinkFault.TheVariants.{Memory}

-- what is answered where this limit is found: Ok where none is, and otherwise that one; or that memory ran out
abbrev pub TellsLimit : {A : Type 0} → Result A LinkFault → Option LinkFault → Type 0
TellsLimit (Ok x) found = found ≡ None
TellsLimit (Err fault) found = fault ≢ Memory → found ≡ Some fault
