-- The members' segments in a merged module: code applies them, so none is active, and the functions in them have the module's numbers.
-- This profile: docs/FORMATS.md, "What merge writes".
use Rattle.std.specs.Prelude.{◌≡◌, ◌<◌, ℕ, All, List, [], ◌∷◌, ◌++◌, length, map, Some}
use Rattle.wasm_form.specs.declared.instr.Instr.{Instr, out-Instr}
use Rattle.wasm_form.specs.declared.instr.Instr.TheOpen as Open
use Rattle.wasm_form.specs.declared.instr.Expr.{Expr}
use Rattle.wasm_form.specs.declared.module.ElemMode.{ElemMode}
use Rattle.wasm_form.specs.declared.module.ElemMode.TheVariants as elem_mode
use Rattle.wasm_form.specs.declared.module.ElemItems.{ElemItems}
use Rattle.wasm_form.specs.declared.module.ElemItems.TheVariants as elem_items
use Rattle.wasm_form.specs.declared.module.Elem.{Elem}
use Rattle.wasm_form.specs.declared.module.DataMode.TheVariants as data_mode
use Rattle.wasm_form.specs.declared.module.Data.{Data}
use Rattle.wasm_form.specs.declared.module.Module.{Module}
use Rattle.wasm_form.specs.declared.runtime.Ref.{Ref}
use Rattle.spec_loading.specs.spec_binary.IndexSpaces.{function_space}
use Rattle.spec_loading.specs.spec_linking.Gathering.{IsSet}
use Rattle.spec_loading.specs.spec_linking.LinkedSets.{LinkedSet, wasm_of}
use Rattle.spec_loading.specs.spec_linking.Links.{Links}
use Rattle.spec_loading.specs.spec_linking.Slots.{fresh_of}
use Rattle.spec_loading.specs.Addresses.{sum_before}
use Rattle.spec_loading.specs.LoadedSet.{own_functions}
use Rattle.spec_loading.specs.Members.{from_members}
use Rattle.merge_match.specs.Renumbering.{Numbers, expr}
use Rattle.merge_match.specs.Parts.{nowhere}
use Rattle.merge_start.specs.declared.numbers.StartNumbers.{StartNumbers}
use Rattle.merge_start.specs.declared.numbers.Span.{Span}
use Rattle.merge_start.specs.declared.passive.PassiveParts.{PassiveParts}
use Rattle.merge_start.specs.Listed.{item}

-- the numbers of the functions of a unit, which stand in a list from a place on; all else keeps its number
abbrev pub functions_at : List ℕ → Span → Numbers
functions_at list s = record {
  function = λ r. nowhere;
  named = λ m f. item list s f;
  ty = λ m t. t;
  global = λ m g. g;
  table = λ m t. t;
  elem = λ m e. e;
  segment = λ m d. d;
}

-- a segment that code applies is passive
abbrev pub passive_mode : ElemMode → ElemMode
passive_mode (elem_mode.Active t offset) = elem_mode.Passive
passive_mode elem_mode.Passive = elem_mode.Passive
passive_mode elem_mode.Declarative = elem_mode.Declarative

abbrev pub renumbered_items : Numbers → ℕ → ElemItems → ElemItems
renumbered_items n m (elem_items.Funcs fs) = elem_items.Funcs (map (n.named m) fs)
renumbered_items n m (elem_items.Exprs ty es) = elem_items.Exprs ty (map (expr n m) es)

abbrev pub passive_elem : Numbers → ℕ → Elem → Elem
passive_elem n m e = record { mode = passive_mode e.mode; items = renumbered_items n m e.items }

abbrev pub passive_data : Data → Data
passive_data d = record d { mode = data_mode.Passive }

-- ---- a set

-- where the numbers of the functions of member m stand, imported ones too
abbrev pub functions_span : LinkedSet → ℕ → Module → Span
functions_span L m wasm =
    record { first = sum_before (λ w. length (function_space w)) L.set.members m; count = length (function_space wasm) }

-- the segments of a member
abbrev pub own_elems : LinkedSet → StartNumbers → ℕ → Module → List Elem
own_elems L s m wasm = map (passive_elem (functions_at s.functions (functions_span L m wasm)) 0) wasm.elems

abbrev pub own_datas : ℕ → Module → List Data
own_datas m wasm = map passive_data wasm.datas

-- a segment of these functions of a member
abbrev pub listed_elem : List ℕ → Span → List ℕ → Elem
listed_elem list s fs = record { mode = elem_mode.Passive; items = elem_items.Funcs (map (item list s) fs) }

-- that of its fresh slots, in slot order
abbrev pub fresh_elems : LinkedSet → StartNumbers → ℕ → Module → List Elem
fresh_elems L s m wasm = listed_elem s.functions (functions_span L m wasm) (fresh_of L m) ∷ []

-- The element segments of all members in set order, by the numbers that are listed for their functions, and behind them one of fresh slots for
-- each member.
abbrev pub listed_elems : LinkedSet → StartNumbers → List Elem
listed_elems L s = from_members (own_elems L s) 0 L.set.members ++ from_members (fresh_elems L s) 0 L.set.members

-- their data segments
abbrev pub passive_datas : LinkedSet → List Data
passive_datas L = from_members own_datas 0 L.set.members

pub record ArePassive (L : LinkedSet) (s : StartNumbers) (parts : PassiveParts) : Type 0 where
  pub elems : parts.elems ≡ listed_elems L s
  pub datas : parts.datas ≡ passive_datas L

-- ---- by numbers

-- n has the numbers that are listed for the functions of the members, and those that have fresh slots are the members' own
pub record AreNamed (L : LinkedSet) (s : StartNumbers) (n : Numbers) : Type 0 where
  pub fresh : (m : ℕ) → m < length L.set.members → map (n.named m) (fresh_of L m) ≡ map n.function (own_functions L m)
  pub named : (m f : ℕ) (wasm : Module) → wasm_of L m ≡ Some wasm → n.named m f ≡ item s.functions (functions_span L m wasm) f

abbrev pub renumbered_elems : Numbers → ℕ → Module → List Elem
renumbered_elems n m wasm = map (passive_elem n m) wasm.elems

-- a segment of functions, by the numbers of what they name
abbrev pub functions_elem : Numbers → ElemMode → List Ref → Elem
functions_elem n mode rs = record { mode = mode; items = elem_items.Funcs (map n.function rs) }

-- that of the functions of member m that have fresh slots, in slot order
abbrev pub slots_elem : LinkedSet → Numbers → ℕ → Elem
slots_elem L n m = functions_elem n elem_mode.Passive (own_functions L m)

-- The same element segments by all the numbers of n: of what a linked set has, items name functions alone.
abbrev pub passive_elems : LinkedSet → Numbers → List Elem
passive_elems L n = from_members (renumbered_elems n) 0 L.set.members ++ from_members (λ m wasm. slots_elem L n m ∷ []) 0 L.set.members

pub record AreRenumbered (L : LinkedSet) (n : Numbers) (parts : PassiveParts) : Type 0 where
  pub elems : parts.elems ≡ passive_elems L n
  pub datas : parts.datas ≡ passive_datas L

abbrev pub ListedIsRenumbered : Type 0
ListedIsRenumbered = (L : LinkedSet) → IsSet L.set → Links L → (s : StartNumbers) (n : Numbers) → AreNamed L s n → listed_elems L s ≡ passive_elems L n

-- ---- items of a valid segment

-- an instruction with an index, or a null
abbrev pub IsItem : Open.Instr-F Instr Expr → Type 0
IsItem (Open.Index op k) = Unit {0}
IsItem (Open.RefNull t) = Unit {0}
IsItem _ = ⊥

abbrev pub AreItems : ElemItems → Type 0
AreItems (elem_items.Funcs fs) = Unit {0}
AreItems (elem_items.Exprs ty es) = All (λ e. All (λ i. IsItem (out-Instr i)) e.list) es
