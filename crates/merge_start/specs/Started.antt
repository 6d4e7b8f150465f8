-- What a merged module must have for its code to do the loader's work, and what is the same of the loader's state.
-- Part of the statement of `snap`: Snapshots of `snap_set`.
use Rattle.std.specs.Prelude.{◌≡◌, ℕ, ◌+◌, ◌<◌, ◌≤◌, ◌^◌, List, [], ◌∷◌, ◌++◌, length, map, nat_eq, Option, Some, None, slice_get, unwrap_or, true, false}
use Rattle.std.specs.List.{All, IsDistinct, position_from}
use Rattle.wasm_form.specs.declared.module.Module.{Module}
use Rattle.wasm_form.specs.declared.runtime.Ref.{Ref}
use Rattle.wasm_form.specs.declared.runtime.Ref.TheVariants.{Own}
use Rattle.wasm_form.specs.declared.runtime.Value.{Value}
use Rattle.wasm_form.specs.declared.runtime.Value.TheVariants.{Num}
use Rattle.spec_loading.specs.spec_binary.Indices.{function_at}
use Rattle.spec_loading.specs.spec_execution.Activations.{Effect, TableInit, ElemDrop, MemoryInit, DataDrop}
use Rattle.spec_loading.specs.spec_execution.Segments.{segment_effects}
use Rattle.spec_loading.specs.spec_execution.Instances.{ModuleParts, module_target}
use Rattle.spec_loading.specs.spec_linking.Orders.{is_among}
use Rattle.spec_loading.specs.spec_linking.LinkedSets.{LinkedSet, wasm_of}
use Rattle.spec_loading.specs.spec_linking.Slots.{member_number}
use Rattle.spec_loading.specs.spec_linking.Links.{set_entry}
use Rattle.spec_loading.specs.declared.task.Phase.{Phase}
use Rattle.spec_loading.specs.Phases.{phase_function}
use Rattle.spec_loading.specs.Loading.{LoaderState, stage_in}
use Rattle.spec_loading.specs.Addresses.{table_address, elem_address, data_address}
use Rattle.spec_loading.specs.Members.{Store, set_instances, set_view, uses_loader, opening_store}
use Rattle.spec_loading.specs.LoadedSet.{first_slot, own_functions}
use Rattle.spec_loading.specs.Laws.{IsCallable}
use Rattle.merge_match.specs.Renumbering.{Numbers, entry}
use Rattle.merge_match.specs.Parts.{extended, AreFew, SameStore}
use Rattle.merge_start.specs.Words.{Starts, phase_code, entry_code, open_code, nullary_function, handle_function}

-- ---- what is the same

-- the references of the fresh slots of a member, in the module
abbrev pub slot_items : LinkedSet → Numbers → ℕ → List (Option Ref)
slot_items L n m = map (entry n) (map Some (own_functions L m))

-- members of the set that aren't in the startup list
abbrev pub AreLater : LinkedSet → List ℕ → Type 0
AreLater L ks = All (λ k. (k < length L.set.members) × (is_among k L.set.startup ≡ false)) ks

-- a member's place among the promoted ones, counted from 1, or 0 where it is none of them
abbrev pub place_of : List ℕ → ℕ → ℕ
place_of promoted m = unwrap_or (position_from (λ k. nat_eq k m) 1 promoted) 0

-- What the merger adds, behind what the store has, by what the loader keeps.
pub record Started (L : LinkedSet) (n : Numbers) (loader : LoaderState) (more : ModuleParts) : Type 0 where
  -- each member has a stage, from 0 to 4
  pub sized : length loader.stages ≡ length L.set.members
  pub low : (m stage : ℕ) → stage_in loader m ≡ Some stage → stage ≤ 4
  -- the first of the globals are the guards, which hold the stages; others follow
  pub others : List Value
  pub guards : more.globals ≡ map Num loader.stages ++ others
  -- the first of these holds the number of the last error, where the set uses the loader
  pub error : uses_loader L ≡ true → slice_get others 0 ≡ Some (Num loader.error)
  pub few : loader.error ≤ 5
  -- behind it, one holds how many members are promoted, and one for each member its place among them
  pub count : uses_loader L ≡ true → slice_get others 1 ≡ Some (Num (length loader.promoted))
  pub places : uses_loader L ≡ true → (m : ℕ) → m < length L.set.members → slice_get others (2 + m) ≡ Some (Num (place_of loader.promoted m))
  -- the promoted members are distinct, and none of them is in the startup list
  pub later : AreLater L loader.promoted
  pub apart : IsDistinct nat_eq loader.promoted
  -- The first of the segments are those of the members' fresh slots. While a member's stage is 0, its segment holds the functions of these
  -- slots in slot order. Once it is placed, nothing is asked of the segment, which nothing reads again.
  pub slots : (m : ℕ) → stage_in loader m ≡ Some 0 → slice_get more.elems m ≡ Some (slot_items L n m)

-- what is added has its numbers behind those of the store, which has the shared table
pub record IsSized (L : LinkedSet) (x : Starts) (us : Store) : Type 0 where
  pub globals : length us.globals ≡ x.guards
  pub elems : (m : ℕ) → m < length L.set.members → x.slots m ≡ length us.elems + m
  pub tables : 0 < length us.tables

-- what is the same of the store of a linked set, of what its loader keeps, and of what changes of the module
pub record Same (L : LinkedSet) (n : Numbers) (x : Starts) (loader : LoaderState) (us parts : ModuleParts) : Type 0 where
  pub store : SameStore n (set_instances L) (Started L n) loader us parts
  pub sized : IsSized L x us

-- the segment of the fresh slots of member m holds the functions of these slots, in slot order
abbrev pub HoldsSlots : LinkedSet → Numbers → Starts → ModuleParts → ℕ → Type 0
HoldsSlots L n x parts m = slice_get parts.elems (x.slots m) ≡ Some (slot_items L n m)

-- What the module's parts are in the beginning: what the members begin with, guards, an error, a count of promoted members and their places that
-- hold 0, and the segments of fresh slots.
pub record IsOpened (L : LinkedSet) (n : Numbers) (x : Starts) (parts : ModuleParts) : Type 0 where
  pub more : ModuleParts
  pub whole : parts ≡ extended n (opening_store L) more
  pub few : AreFew parts
  pub others : List Value
  pub guards : more.globals ≡ map (λ m. Num 0) L.set.members ++ others
  pub error : uses_loader L ≡ true → slice_get others 0 ≡ Some (Num 0)
  pub promoted : uses_loader L ≡ true → (m : ℕ) → m ≤ length L.set.members → slice_get others (1 + m) ≡ Some (Num 0)
  pub slots : (m : ℕ) → m < length L.set.members → slice_get more.elems m ≡ Some (slot_items L n m)
  pub first_guard : length (opening_store L).globals ≡ x.guards
  pub first_slots : (m : ℕ) → m < length L.set.members → x.slots m ≡ length (opening_store L).elems + m

-- ---- what members must be

abbrev pub IsWord : ℕ → Type 0
IsWord k = k < 2 ^ 32

abbrev pub HasAddress : Option ℕ → Type 0
HasAddress o = (a : ℕ) × (o ≡ Some a)

-- an effect of segments, whose numbers are words, and name what the store has
abbrev pub IsEffectReady : LinkedSet → ℕ → Effect → Type 0
IsEffectReady L m (TableInit e t to from count) =
    IsWord to × IsWord from × IsWord count × HasAddress (table_address L m t) × HasAddress (elem_address L m e)
IsEffectReady L m (ElemDrop e) = HasAddress (elem_address L m e)
IsEffectReady L m (MemoryInit d to from count) = IsWord to × IsWord from × IsWord count × HasAddress (data_address L m d)
IsEffectReady L m (DataDrop d) = HasAddress (data_address L m d)
IsEffectReady L m _ = ⊥

abbrev pub AreEffectsReady : LinkedSet → ℕ → List Effect → Type 0
AreEffectsReady L m [] = Unit {0}
AreEffectsReady L m (x ∷ xs) = IsEffectReady L m x × AreEffectsReady L m xs

-- A member of the set, and the functions of its phases in the module.
pub record MemberReady (L : LinkedSet) (n : Numbers) (x : Starts) (merged : Module) (m : ℕ) : Type 0 where
  pub wasm : Module
  pub found : wasm_of L m ≡ Some wasm
  pub effects : AreEffectsReady L m (segment_effects (member_number L m) wasm)
  pub slot : IsWord (first_slot L m)
  pub fresh : IsWord (length (own_functions L m))
  pub target : (p : Phase) → module_target merged (x.phase m p) ≡ Some (Own 0 (x.phase m p))
  pub code : (p : Phase) → function_at merged (x.phase m p) ≡ Some (nullary_function (phase_code L n x m wasm p))
  pub callable : (p : Phase) (f : ℕ) → phase_function p m wasm ≡ Some f → (r : Ref) × ((set_view L).target m f ≡ Some r) × IsCallable L r

-- the entry of the set is a function of main without parameters and results
pub record EntryReady (L : LinkedSet) : Type 0 where
  pub function : ℕ
  pub entry : set_entry L.set.members ≡ Some function
  pub target : (set_view L).target 0 function ≡ Some (Own 0 function)
  pub callable : IsCallable L (Own 0 function)

-- The functions that the loader's frames stand in. The module itself has no start function.
pub record StartReady (L : LinkedSet) (n : Numbers) (x : Starts) (merged : Module) : Type 0 where
  pub start : merged.start ≡ None
  pub target : module_target merged x.starting ≡ Some (Own 0 x.starting)
  pub code : function_at merged x.starting ≡ Some (nullary_function (entry_code L n x))

pub record OpenReady (L : LinkedSet) (n : Numbers) (x : Starts) (merged : Module) (m : ℕ) : Type 0 where
  pub target : module_target merged (x.opening m) ≡ Some (Own 0 (x.opening m))
  pub code : function_at merged (x.opening m) ≡ Some (handle_function (open_code L n x m))
  pub word : IsWord (m + 1)

-- what the code of frames stands on
pub record IsReady (L : LinkedSet) (n : Numbers) (x : Starts) (merged : Module) : Type 0 where
  pub members : (m : ℕ) → m < length L.set.members → MemberReady L n x merged m
  pub entry : EntryReady L
