-- What is so of the module that begins where the start-up of a linked set ended.
-- Part of the statement of laws: docs/LAWS.md, "It goes on where start-up ended", "There is one, or
-- one cause why not" and "Laws of the parts".
use Rattle.std.specs.Prelude.{◌≡◌, ◌≤◌, ℕ, List, [], ◌∷◌, Some, None, IsTrue, Ok}
use Rattle.std.specs.List.{All}
use Rattle.spec_loading.specs.wasm_form.declared.module.Module.{Module}
use Rattle.spec_loading.specs.wasm_form.declared.runtime.Ref.{Ref}
use Rattle.spec_loading.specs.wasm_form.declared.runtime.Ref.TheVariants.{Own}
use Rattle.spec_loading.specs.spec_runs.Systems.{Moving}
use Rattle.spec_loading.specs.spec_runs.Agreement.{Agree, Silent}
use Rattle.spec_loading.specs.spec_binary.Indices.{Function, nullary}
use Rattle.spec_loading.specs.spec_binary.Modules.{SpellsModule}
use Rattle.spec_loading.specs.spec_validation.Faults.{fault}
use Rattle.spec_loading.specs.spec_runtime.Tables.{TableInstance}
use Rattle.spec_loading.specs.spec_execution.Ranges.{Exists}
use Rattle.spec_loading.specs.spec_execution.Runs.{entered}
use Rattle.spec_loading.specs.spec_execution.Runs as frames
use Rattle.spec_loading.specs.spec_execution.Instances.{ModuleParts}
use Rattle.spec_loading.specs.spec_execution.OneModule.{ModuleState, module_system, module_opening, imports_met}
use Rattle.spec_loading.specs.spec_safety.Laws.{imports_functions}
use Rattle.spec_loading.specs.spec_linking.LinkedSets.{LinkedSet}
use Rattle.spec_loading.specs.spec_linking.Links.{set_entry}
use Rattle.spec_loading.specs.Members.{set_instances, set_view}
use Rattle.spec_loading.specs.LoadedSet.{SetState, set_system, set_opening}
use Rattle.spec_loading.specs.SoundSets.{HoldBytes}
use Rattle.spec_snapshots.specs.Causes.{SnapCause, Takes, IsFirst, state_after}
use Rattle.spec_snapshots.specs.Stretches.{IsWritten}
use Rattle.merge_match.specs.Renumbering.{Numbers, reference}
use Rattle.merge_match.specs.Parts.{AreFew}
use Rattle.merge_match.specs.Bounded.{IsBounded}
use Rattle.merge_match.specs.Laws.{HasParts}
use Rattle.merge_start.specs.Words.{Starts}
use Rattle.merge_start.specs.Started.{Same, IsReady}
use Rattle.merge_start.specs.Laws.{CallsAreAnswered}
use Rattle.merge_index.specs.Numbering.{numbers_of, starts_of}
use Rattle.merge_module.specs.Laws.{IsMergeable}
use Rattle.merge_module.specs.MergedModule.{merged_module}
use Rattle.snap_module.specs.Held.{Contents, held, held_parts, IsReference, CanBeHeld}
use Rattle.snap_module.specs.Laws.{IsStart}
use Rattle.snap_set.specs.Snapshots.{IsSnapshot, Snapped}
use Rattle.snap_set.specs.Parts.{snapshot_parts, start_number, snapshot_module, MakeContents, IsHeldWith}

-- ---- what exists in the set has a number

abbrev pub ReferencesAreKept : Type 0
ReferencesAreKept = (L : LinkedSet) (n : Numbers) (merged : Module) → HasParts L n merged → fault merged ≡ None → (r : Ref)
    → Exists (set_view L) r → IsReference merged (Some (reference n r))

-- ---- which state it is made of

-- at most one state of a start-up is the first of which something is to be said, and one thing is said of it
abbrev pub OneFirst : Type 0
OneFirst = (L : LinkedSet) (most n m : ℕ) (c d : SnapCause) → IsFirst L most n c → IsFirst L most m d → (n ≡ m) × (c ≡ d)

-- and there is one, after no more steps than may be made
abbrev pub SomeFirst : Type 0
SomeFirst = (L : LinkedSet) → IsMergeable L → HoldBytes L → (most : ℕ) → (n : ℕ) × (c : SnapCause) × (n ≤ most) × IsFirst L most n c

-- ---- the snapshot

-- a state to which steps lead that ask nothing, and of which the last has called the entry, the function f of main
pub record IsJustStarted (L : LinkedSet) (s : SetState) (f : ℕ) (code : Function) : Type 0 where
  pub steps : ℕ
  pub silent : Silent (set_system L) steps (set_opening L) s
  pub moving : s.run.status ≡ Moving
  pub stack : s.run.stack ≡ frames.Active (entered 0 f code []) ∷ []
  pub found : (set_instances L).code 0 f ≡ Some code
  pub ty : code.ty ≡ nullary
  pub bounded : IsBounded s.run.memory

-- The first started state has just called the entry of main.
abbrev pub FirstIsJustStarted : Type 0
FirstIsJustStarted = (L : LinkedSet) → IsMergeable L → HoldBytes L → (most n : ℕ) → IsFirst L most n Takes
    → (f : ℕ) × (code : Function) × (set_entry L.set.members ≡ Some f) × IsJustStarted L (state_after L n) f code

-- the merged module meets the laws of one step, opens, and its run agrees with that of the set
pub record IsMergedAs (L : LinkedSet) (n : Numbers) (x : Starts) (merged : Module) : Type 0 where
  pub parts : HasParts L n merged
  pub ready : IsReady L n x merged
  pub calls : CallsAreAnswered L n x merged
  pub valid : fault merged ≡ None
  pub alone : IsTrue (imports_functions merged)
  pub imports : imports_met merged L.names merged.imports ≡ Ok tt
  pub plain : merged.customs ≡ []
  pub opening : ModuleState
  pub opens : module_opening merged L.names ≡ Ok opening
  pub agrees : Agree (set_system L) (module_system merged) (set_opening L) opening

-- Of a state that has just called its entry, and what a module can hold that is the same, of which little is written: the module is a snapshot of
-- the state.
abbrev pub HeldIsSnapshot : Type 0
HeldIsSnapshot = (L : LinkedSet) (n : Numbers) (x : Starts) (merged : Module) → IsMergedAs L n x merged → (s : SetState) (f : ℕ) (code : Function)
    → IsJustStarted L s f code → (p : ModuleParts) (c : Contents) → Same L n x s.loader s.run.units p → AreFew (held_parts p c)
    → CanBeHeld merged p s.run.memory c → IsWritten s.run.memory p.tables c → IsStart merged (n.function (Own 0 f))
    → IsSnapshot L n x merged (n.function (Own 0 f)) s (held merged (n.function (Own 0 f)) p s.run.memory c)

-- ---- what the snapshot of a set holds

-- What the snapshot holds of a state of start-up is the same as what the set has there, and can be held.
pub record Holds (L : LinkedSet) (s : SetState) (c : Contents) : Type 0 where
  pub same : Same L (numbers_of L) (starts_of L) s.loader s.run.units (snapshot_parts L s)
  pub can : CanBeHeld (merged_module L) (snapshot_parts L s) s.run.memory c

abbrev pub PartsCanBeHeld : Type 0
PartsCanBeHeld = (L : LinkedSet) → IsMergeable L → HoldBytes L → (n : ℕ) (c : Contents)
    → MakeContents (merged_module L) (snapshot_parts L (state_after L n)) (state_after L n).run.memory c → Holds L (state_after L n) c

-- each entry of the tables is null or a function of the merged module
abbrev pub TablesRefer : Type 0
TablesRefer = (L : LinkedSet) → IsMergeable L → HoldBytes L → (n : ℕ)
    → All (λ (x : TableInstance). All (IsReference (merged_module L)) x.entries) (snapshot_parts L (state_after L n)).tables

-- Bytes that spell the snapshot of the first started state are a snapshot of the set.
abbrev pub SpelledSnapshot : Type 0
SpelledSnapshot = (L : LinkedSet) → IsMergeable L → HoldBytes L → (most n : ℕ) → IsFirst L most n Takes → (c : Contents)
    → IsHeldWith L (state_after L n) c → (bytes : List ℕ) → SpellsModule (snapshot_module L (state_after L n) c) bytes
    → Snapped L (numbers_of L) (starts_of L) (merged_module L) (start_number L) bytes (state_after L n)
