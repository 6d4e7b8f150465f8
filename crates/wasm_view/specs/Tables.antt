-- What the calls on a table of a unit answer, and how they change the units.
-- Serves the contracts of this crate, which follow Views of `spec_execution`.
use Rattle.std.specs.Prelude.{◌≡◌, ℕ, Option, MatchOption, Result, Ok, Err, MatchResult}
use Rattle.wasm_form.specs.declared.Memory.{Memory}
use Rattle.wasm_form.specs.declared.runtime.Trap.{Trap}
use Rattle.wasm_form.specs.declared.runtime.Trap.TheVariants.{TableBounds}
use Rattle.spec_execution.specs.spec_runtime.Tables.{TableInstance}
use Rattle.spec_execution.specs.Views.{View, not_grown}

-- the table becomes the one that is wanted, or there is none: then the call traps, and nothing changes
abbrev pub ChangesTable : {Units : Type 0} → View Units → Units → ℕ → ℕ → Option TableInstance → Result (Unit {0}) Trap → Units → Type 0
ChangesTable V old unit t wanted result new = MatchOption wanted ((result ≡ Err TableBounds) × (new ≡ old)) (λ x. (result ≡ Ok tt) × (new ≡ V.set_table old unit t x))

-- The table becomes the larger one that is wanted and the answer is its old size, or nothing changes: the answer is 4,294,967,295
-- exactly where there is none, and only elsewhere may memory be wanting.
abbrev pub GrowsTable : {Units : Type 0} → View Units → Units → ℕ → ℕ → Option TableInstance → ℕ → Result ℕ Memory → Units → Type 0
GrowsTable V old unit t wanted size result new =
    MatchOption wanted ((result ≡ Ok not_grown) × (new ≡ old)) (λ x. MatchResult result (λ answer. (answer ≡ size) × (new ≡ V.set_table old unit t x)) (λ _. new ≡ old))
