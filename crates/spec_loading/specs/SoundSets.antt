-- When the store of a linked set is sound, and that its run never gets stuck.
-- Part of the statement of laws: docs/LAWS.md, "Linked sets never get stuck" and "Laws of the
-- parts".
use Rattle.std.specs.Prelude.{◌≡◌, ◌<◌, ℕ, List, length, slice_get, Option, Some, IsTrue}
use Rattle.std.specs.List.{All}
use Rattle.spec_linking.specs.wasm_form.declared.runtime.Ref.{Ref}
use Rattle.spec_linking.specs.wasm_form.declared.runtime.Value.{Value}
use Rattle.spec_linking.specs.wasm_form.declared.runtime.Answer.{Answer}
use Rattle.spec_linking.specs.spec_runs.Systems.{Moving, Waits}
use Rattle.spec_linking.specs.spec_runtime.Hosts.{HostCall, answer_fits}
use Rattle.spec_linking.specs.spec_runtime.Tables.{TableInstance}
use Rattle.spec_linking.specs.spec_validation.Faults.{most_pages}
use Rattle.spec_linking.specs.spec_execution.Ranges.{AllExist}
use Rattle.spec_linking.specs.spec_execution.Runs.{taken}
use Rattle.spec_linking.specs.Sets.{Member}
use Rattle.spec_linking.specs.Gathering.{IsSet}
use Rattle.spec_linking.specs.LinkedSets.{LinkedSet}
use Rattle.spec_linking.specs.Slots.{linked_plan}
use Rattle.spec_linking.specs.Links.{Links}
use Rattle.spec_safety.specs.ValueTypes.{HasType, AreBytes, IsOfBytes, IsTable}
use Rattle.spec_safety.specs.TypedViews.{IsSoundView}
use Rattle.spec_safety.specs.SoundModules.{HoldsBytes}
use Rattle.spec_loading.specs.Addresses.{elem_address, data_address}
use Rattle.spec_loading.specs.Loading.{with_run, loaded_step}
use Rattle.spec_loading.specs.Members.{Store, set_view}
use Rattle.spec_loading.specs.LoadedSet.{SetState, set_loading, set_opening, set_run}
use Rattle.spec_loading.specs.RunItems.{RunGlobal, address_of_global, RunTable, address_of_table, run_global_type}
use Rattle.spec_loading.specs.SetNames.{set_names}
use Rattle.spec_loading.specs.SoundLoading.{IsSoundLoading, IsSound}

-- Each global of the run, the stack pointer, bases and cells among them, holds a value of its type; each table and each segment has entries
-- that there are, and data segments are of bytes.
pub record IsSoundStore (L : LinkedSet) (us : Store) : Type 0 where
  pub globals : (x : RunGlobal) (a : ℕ) → address_of_global L x ≡ Some a
      → (v : Value) × (slice_get us.globals a ≡ Some v) × HasType (set_view L) (run_global_type L x) v
  pub tables : (x : RunTable) (a : ℕ) → address_of_table L x ≡ Some a → (t : TableInstance) × (slice_get us.tables a ≡ Some t) × IsTable (set_view L) t
  pub elems : (m e a : ℕ) → elem_address L m e ≡ Some a
      → (items : List (Option Ref)) × (slice_get us.elems a ≡ Some items) × AllExist (set_view L) items
  pub datas : (m d a : ℕ) → data_address L m d ≡ Some a → (bytes : List ℕ) × (slice_get us.datas a ≡ Some bytes) × AreBytes bytes

-- the data segments of its members are of bytes
abbrev pub HoldBytes : LinkedSet → Type 0
HoldBytes L = All (λ (member : Member). HoldsBytes member.wasm) L.set.members

-- a state of the run of a linked set is sound
abbrev pub IsSoundState : LinkedSet → SetState → Type 0
IsSoundState L s = IsSound (set_loading L) (set_names L) (IsSoundStore L) (length L.set.members) s

-- It may have fewer pages than a memory can have, so that each address of its memory, and the end of that, is a number of 32 bits.
abbrev pub HasFewPages : LinkedSet → Type 0
HasFewPages L = (linked_plan L).pages_max < most_pages

-- the view of its members is typed under its own names, of which it has as many as it counts
abbrev pub SetViewIsSound : Type 0
SetViewIsSound = (L : LinkedSet) → IsSet L.set → Links L → IsSoundView (set_view L)

-- the members' code is typed, and what the loader does keeps all sound
abbrev pub SetIsSound : Type 0
SetIsSound = (L : LinkedSet) → IsSet L.set → Links L → HasFewPages L
    → IsSoundLoading (set_loading L) (set_names L) (IsSoundStore L) (length L.set.members)

-- a step from a sound state is there, and leads to a sound one
abbrev pub SetStepIsSound : Type 0
SetStepIsSound = (L : LinkedSet) (s : SetState) → IsSet L.set → Links L → HasFewPages L → IsSoundState L s → s.run.status ≡ Moving
    → (t : SetState) × (loaded_step (set_loading L) s ≡ Some t) × IsSoundState L t

abbrev pub SetAnswerIsSound : Type 0
SetAnswerIsSound = (L : LinkedSet) (s : SetState) (call : HostCall) (a : Answer) → IsSet L.set → Links L → HasFewPages L → IsSoundState L s
    → s.run.status ≡ Waits call → IsTrue (answer_fits call s.run.memory a) → IsOfBytes a → IsSoundState L (with_run s (taken a s.run))

abbrev pub SetOpensSound : Type 0
SetOpensSound = (L : LinkedSet) → IsSet L.set → Links L → HasFewPages L → HoldBytes L → IsSoundState L (set_opening L)

-- The run of a linked set never gets stuck: each state that it comes to, for any answers, is sound, so it has a step, waits or has ended.
abbrev pub SetRunIsSound : Type 0
SetRunIsSound = (L : LinkedSet) (answers : List Answer) (n : ℕ) → IsSet L.set → Links L → HasFewPages L → HoldBytes L → All IsOfBytes answers
    → IsSoundState L (set_run L answers n).state

abbrev pub SetNeverStuck : Type 0
SetNeverStuck = (L : LinkedSet) (answers : List Answer) (n : ℕ) → IsSet L.set → Links L → HasFewPages L → HoldBytes L → All IsOfBytes answers
    → (set_run L answers n).state.run.status ≡ Moving → (t : SetState) × (loaded_step (set_loading L) (set_run L answers n).state ≡ Some t)
