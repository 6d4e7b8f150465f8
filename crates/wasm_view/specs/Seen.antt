-- What a machine sees of its view.
-- Serves the contracts of this crate, which follow Views of `spec_execution`.
use Rattle.std.specs.Prelude.{ℕ, List, Option}
use Rattle.wasm_form.specs.declared.runtime.Ref.{Ref}
use Rattle.spec_execution.specs.spec_runtime.Memories.{MemoryInstance}
use Rattle.spec_execution.specs.spec_runtime.Tables.{TableInstance}
use Rattle.spec_execution.specs.Views.{View}

-- what is fixed, and what steps change: the units and the memory that they share
pub record Seen (Units : Type 0) : Type 0 where
  pub fixed : View Units
  pub units : Units
  pub memory : MemoryInstance

-- a table of a unit, and an element segment
abbrev pub table_in : {Units : Type 0} → Seen Units → ℕ → ℕ → Option TableInstance
table_in w unit t = w.fixed.table w.units unit t

abbrev pub elem_in : {Units : Type 0} → Seen Units → ℕ → ℕ → Option (List (Option Ref))
elem_in w unit e = w.fixed.elem w.units unit e
