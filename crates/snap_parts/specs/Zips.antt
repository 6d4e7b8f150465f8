-- Lists side by side, as far as both go.
-- Serves the contracts of this crate, which follow Held of `snap_module`.
use Rattle.std.specs.Prelude.{List, [], ◌∷◌, Bool, true, false}
use Rattle.spec_loading.specs.wasm_form.declared.types.TableType.{TableType}
use Rattle.spec_loading.specs.wasm_form.declared.module.GlobalDef.{GlobalDef}
use Rattle.spec_loading.specs.wasm_form.declared.module.ElemMode.TheVariants as elem_mode
use Rattle.spec_loading.specs.wasm_form.declared.module.Elem.{Elem}
use Rattle.spec_loading.specs.wasm_form.declared.runtime.Value.{Value}
use Rattle.spec_loading.specs.spec_runtime.Tables.{TableInstance}
use Rattle.snap_module.specs.Held.{expr_of, constant_instr, held_table, no_elem}

abbrev pub zip_by : {A B C : Type 0} → (A → B → C) → List A → List B → List C
zip_by f [] ys = []
zip_by f (x ∷ xs) [] = []
zip_by f (x ∷ xs) (y ∷ ys) = f x y ∷ zip_by f xs ys

abbrev pub global_by : GlobalDef → Value → GlobalDef
global_by g v = record g { init = expr_of (constant_instr g.ty.value v) }

abbrev pub table_by : TableType → TableInstance → TableType
table_by t x = held_table t x

-- a segment that isn't empty
abbrev pub is_left : {A : Type 0} → List A → Bool
is_left [] = false
is_left (x ∷ xs) = true

-- a segment that is left, or none in its place
abbrev pub elem_by : Elem → Bool → Elem
elem_by e false = no_elem
elem_by e true = record e { mode = elem_mode.Passive }
