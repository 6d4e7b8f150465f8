-- What placing a member changes.
-- Serves the contracts of this crate, which follow LoadedSet of `spec_loading`.
use Rattle.std.specs.Prelude.{◌≡◌, ◌<◌, ℕ, List, [], length, map, Option, Some, None, MatchOption, Result, Ok, Err}
use Rattle.wasm_form.specs.declared.instr.Expr.{Expr}
use Rattle.wasm_form.specs.declared.module.ElemMode.{ElemMode}
use Rattle.wasm_form.specs.declared.module.ElemMode.TheVariants as elem_mode
use Rattle.wasm_form.specs.declared.module.Elem.{Elem}
use Rattle.wasm_form.specs.declared.module.DataMode.{DataMode}
use Rattle.wasm_form.specs.declared.module.DataMode.TheVariants as data_mode
use Rattle.wasm_form.specs.declared.module.Data.{Data}
use Rattle.wasm_form.specs.declared.module.Module.{Module}
use Rattle.wasm_form.specs.declared.runtime.Ref.{Ref}
use Rattle.wasm_form.specs.declared.runtime.Ref.TheVariants.{Own}
use Rattle.wasm_form.specs.declared.runtime.Trap.{Trap}
use Rattle.spec_loading.specs.spec_binary.Options.{◌>>=◌}
use Rattle.spec_loading.specs.spec_runtime.Tables.{entries_written}
use Rattle.spec_loading.specs.spec_execution.Instances.{ModuleParts}
use Rattle.spec_loading.specs.spec_linking.LinkedSets.{LinkedSet, wasm_of}
use Rattle.spec_loading.specs.spec_linking.Slots.{member_number}
use Rattle.spec_loading.specs.Members.{set_view, shared_table}
use Rattle.spec_loading.specs.LoadedSet.{own_functions, with_slots, member_placed}
use Rattle.spec_loading.specs.spec_binary.WellFormed.{IsFormedItems}
use Rattle.spec_loading.specs.spec_execution.Activations.{Effect}
use Rattle.spec_loading.specs.spec_execution.Segments.{Performed, all_performed, elem_effects, data_effects, all_effects}
use Rattle.dyl_frames.specs.Cores.{Places}
use Rattle.dyl_store.specs.declared.place_member.Placement.{Placement}
use Rattle.dyl_store.specs.Worlds.{WorldState}

-- what is wanted was written from a segment, which is empty then; or there is none, which is a trap that changes nothing
abbrev pub Moves : {A B : Type 0} → Trap → Option A → (A × List B) → Result (Unit {0}) Trap → (A × List B) → Type 0
Moves why wanted old result new = MatchOption wanted ((result ≡ Err why) × (new.0 ≡ old.0) × (new.1 ≡ old.1)) (λ x. (result ≡ Ok tt) × (new.0 ≡ x) × (new.1 ≡ []))

-- effects of a member came to this
abbrev pub Performs : ℕ → List Effect → WorldState → Result (Unit {0}) Trap → WorldState → Type 0
Performs m effects old result new = Places (all_performed (set_view old.linked) m effects old.store old.memory) result new.store new.memory

-- ---- segments

-- where a segment goes, if it is active and its offset has a number
abbrev pub elem_offset : (Expr → Option ℕ) → Elem → Option ℕ
elem_offset number segment = go segment.mode
  where
    go : ElemMode → Option ℕ
    go (elem_mode.Active t offset) = number offset
    go elem_mode.Passive = None
    go elem_mode.Declarative = None

abbrev pub data_offset : (Expr → Option ℕ) → Data → Option ℕ
data_offset number segment = go segment.mode
  where
    go : DataMode → Option ℕ
    go (data_mode.Active memory offset) = number offset
    go data_mode.Passive = None

-- the table of an active segment is one of so many
abbrev pub IsTableBelow : ℕ → ElemMode → Type 0
IsTableBelow n (elem_mode.Active t offset) = t < n
IsTableBelow n elem_mode.Passive = Unit {0}
IsTableBelow n elem_mode.Declarative = Unit {0}

-- a segment that may be placed, where there are so many tables
pub record IsPlaceable (n : ℕ) (segment : Elem) : Type 0 where
  pub table : IsTableBelow n segment.mode
  pub items : IsFormedItems segment.items

-- the effects of segments came to this, whatever their offsets mean that are these numbers
abbrev pub PerformsElems : ℕ → List Elem → List (Option ℕ) → WorldState → Result (Unit {0}) Trap → WorldState → Type 0
PerformsElems m segments ats old result new =
    (number : Expr → Option ℕ) → ats ≡ map (elem_offset number) segments → Performs m (all_effects (elem_effects number) 0 segments) old result new

abbrev pub PerformsDatas : ℕ → List Data → List (Option ℕ) → WorldState → Result (Unit {0}) Trap → WorldState → Type 0
PerformsDatas m segments ats old result new =
    (number : Expr → Option ℕ) → ats ≡ map (data_offset number) segments → Performs m (all_effects (data_effects number) 0 segments) old result new

-- a function of member m as an entry of the table
abbrev pub own_entry : ℕ → ℕ → Option Ref
own_entry m f = Some (Own m f)

-- ---- a whole member

-- references were written to the shared table from an index on, or pass its end
abbrev pub slots_put : WorldState → ℕ → List (Option Ref) → Option (Performed ModuleParts)
slots_put w at items = shared_table w.store >>= λ table. Some (with_slots w.store w.memory (entries_written table at items))

-- where the segments of a member go, and what its fresh slots hold
pub record IsPlacementOf (L : LinkedSet) (m : ℕ) (wasm : Module) (p : Placement) : Type 0 where
  pub elems : p.elems.items ≡ map (elem_offset (member_number L m)) wasm.elems
  pub datas : p.datas.items ≡ map (data_offset (member_number L m)) wasm.datas
  pub slots : p.slots.items ≡ map Some (own_functions L m)
  pub few : length p.slots.items < 4294967296

abbrev pub IsPlacement : LinkedSet → ℕ → Placement → Type 0
IsPlacement L m p = (wasm : Module) → wasm_of L m ≡ Some wasm → IsPlacementOf L m wasm p

-- a member was placed so
abbrev pub PlacesSo : LinkedSet → ℕ → WorldState → Result (Unit {0}) Trap → WorldState → Type 0
PlacesSo L m old result new = Places (member_placed L m old.store old.memory) result new.store new.memory
