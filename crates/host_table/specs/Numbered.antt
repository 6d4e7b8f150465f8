-- Entries with their numbers.
-- Serves the contracts of this crate, which follow Names of `spec_runtime`.
use Rattle.std.specs.Prelude.{◌≡◌, ℕ, List}
use Rattle.std.specs.List.{position_from}
use Rattle.spec_runtime.specs.Names.{HostName}
use Rattle.host_table.specs.Names.{is_called}
use Rattle.host_table.specs.Numbers.{Numbers, number_of}

-- the number of each module and name is that of the first entry whose host function has them
abbrev pub AreNumbered : {E : Type 0} → (E → HostName) → Numbers → List E → Type 0
AreNumbered host numbers es = (from name : List ℕ) → number_of numbers from name ≡ position_from (λ e. is_called from name (host e)) 0 es
