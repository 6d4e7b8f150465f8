-- The segments that are written of tables, behind others.
-- Serves the contracts of this crate, which follow Held of `snap_module`.
use Rattle.std.specs.Prelude.{◌≡◌, ℕ, List, ◌++◌, map, Option, None}
use Rattle.spec_loading.specs.wasm_form.declared.module.Elem.{Elem}
use Rattle.spec_loading.specs.wasm_form.declared.runtime.Ref.{Ref}
use Rattle.spec_loading.specs.spec_runtime.Tables.{TableInstance}
use Rattle.snap_module.specs.Held.{Stretch, table_elem, table_elems}
use Rattle.spec_snapshots.specs.Stretches.{IsSparse, AreSparse}

pub record TableWritten (gap t : ℕ) (x : TableInstance) (before now : List Elem) : Type 0 where
  pub stretches : List (Stretch (Option Ref))
  pub sparse : IsSparse None gap x.entries stretches
  pub put : now ≡ before ++ map (table_elem t) stretches

pub record TablesWritten (gap : ℕ) (xs : List TableInstance) (before now : List Elem) : Type 0 where
  pub stretches : List (List (Stretch (Option Ref)))
  pub sparse : AreSparse gap xs stretches
  pub put : now ≡ before ++ table_elems 0 stretches
