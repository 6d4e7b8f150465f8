-- What is given of a linked set, and what is found of its members.
-- Serves the contracts of this crate, which follow Slots of `spec_linking`.
use Rattle.std.specs.Prelude.{◌≡◌, ℕ, ◌+◌, ◌<◌, ◌≤◌, ◌^◌, List, [], ◌∷◌, map, length, slice_get, true, Some, None}
use Rattle.wasm_form.specs.declared.module.Module.{Module}
use Rattle.wasm_form.specs.declared.runtime.Ref.{Ref}
use Rattle.wasm_form.specs.declared.runtime.Ref.TheVariants.{Own}
use Rattle.spec_loading.specs.spec_linking.Plans.{Plan}
use Rattle.spec_loading.specs.LoadedSet.{first_slot}
use Rattle.spec_loading.specs.spec_linking.Orders.{is_among}
use Rattle.spec_loading.specs.spec_linking.LinkedSets.{LinkedSet, wasm_of, function_ref}
use Rattle.spec_loading.specs.spec_linking.Slots.{linked_plan, memory_base, table_base, segment_slot, defined_functions, fresh_of, slot_of}
use Rattle.spec_loading.specs.spec_linking.Links.{first_fault, import_fault, members_fault}
use Rattle.dyl_imports.specs.dyl_search.declared.set.Member as code
use Rattle.dyl_imports.specs.dyl_search.Gathers.{member_of}
use Rattle.dyl_slots.specs.declared.placings.Bases.{Bases}
use Rattle.dyl_slots.specs.declared.segmented.Segmented.{Segmented}
use Rattle.dyl_slots.specs.declared.tables.MemberSlots.{MemberSlots}
use Rattle.dyl_slots.specs.Fresh.{slot_at}

-- Member m of a linked set, whose imports have no fault: the functions that its numbers name, and its bases. Its region lies in the table.
pub record IsAt (L : LinkedSet) (m : ℕ) (member : code.Member) (functions : List Ref) (bases : Bases) : Type 0 where
  pub here : slice_get L.set.members m ≡ Some (member_of member)
  pub names : (f : ℕ) → slice_get functions f ≡ function_ref L m f
  pub memory : memory_base L m ≡ Some bases.memory
  pub table : table_base L m ≡ Some bases.table
  pub imports : first_fault (import_fault L m member.checked) member.checked.imports ≡ None
  pub small : bases.memory < 2 ^ 32
  pub within : bases.table + member.dylink.table_size < 2 ^ 32

-- What is found of member m of a linked set: the functions that it defines under names, the slots that its region gives them, and those that
-- have none there.
pub record IsSegmentedOf (L : LinkedSet) (m : ℕ) (s : Segmented) : Type 0 where
  pub wasm : Module
  pub here : wasm_of L m ≡ Some wasm
  pub defined : s.defined ≡ defined_functions wasm
  pub below : (f : ℕ) → is_among f s.defined ≡ true → f < length s.segments.items
  pub segments : (f : ℕ) → f < length s.segments.items → slot_at s.segments.items f ≡ segment_slot L m f
  pub fresh : s.fresh ≡ fresh_of L m

-- the slots of member m of a linked set
pub record IsSlotsOf (L : LinkedSet) (m : ℕ) (x : MemberSlots) : Type 0 where
  pub slots : (f : ℕ) → slot_at x.slots f ≡ slot_of L (Own m f)
  pub fresh : x.fresh ≡ fresh_of L m
  pub first : x.first_slot ≡ first_slot L m

-- ---- all members

-- so is each of a list with its number
abbrev pub AllAt : {A : Type 0} → (ℕ → A → Type 0) → List A → Type 0
AllAt {A} P xs = (k : ℕ) (x : A) → slice_get xs k ≡ Some x → P k x

-- Of a linked set whose members have no fault: its members, its plan, and the functions that each member's numbers name. The regions lie in
-- the table, and the memory is no larger than it may be.
pub record IsGiven (L : LinkedSet) (members : List code.Member) (plan : Plan) (functions : List (List Ref)) : Type 0 where
  pub set : L.set.members ≡ map member_of members
  pub placed : plan ≡ linked_plan L
  pub count : length functions ≡ length members
  pub names : AllAt (λ m refs. (f : ℕ) → slice_get refs f ≡ function_ref L m f) functions
  pub few : length members ≤ 256
  pub none : members_fault L 0 L.set.members ≡ None
  pub entries : plan.table_end < 2 ^ 32
  pub pages : plan.pages ≤ 16384

abbrev pub HasFew : Segmented → Type 0
HasFew s = length s.fresh < 2 ^ 32

abbrev pub fresh_sum : List Segmented → ℕ
fresh_sum [] = 0
fresh_sum (s ∷ ss) = length s.fresh + fresh_sum ss
