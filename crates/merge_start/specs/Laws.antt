-- What is so of a merged module with the generated code beside the set.
-- Part of the statement of laws: docs/LAWS.md, "Laws of the parts".
use Rattle.std.specs.Prelude.{◌≡◌, ℕ, ◌+◌, ◌*◌, ◌<◌, ◌≤◌, List, [], ◌∷◌, length, Option, Some, false}
use Rattle.wasm_form.specs.declared.instr.Instr.{Instr, Index}
use Rattle.wasm_form.specs.declared.module.Module.{Module}
use Rattle.wasm_form.specs.declared.runtime.LoaderCall.{LoaderCall}
use Rattle.wasm_form.specs.declared.runtime.Ref.TheVariants.{Loader}
use Rattle.spec_loading.specs.spec_runs.Systems.{Moving}
use Rattle.spec_loading.specs.spec_runs.Agreement.{StepLaw, Agree}
use Rattle.spec_loading.specs.spec_runs.Costs.{CostLaw, AgreeWithin}
use Rattle.spec_loading.specs.Costs.{next_cost}
use Rattle.spec_loading.specs.SetCosts.{set_prices, step_cost, set_room, module_depth}
use Rattle.spec_loading.specs.spec_execution.Limits.{activations}
use Rattle.spec_loading.specs.spec_linking.Slots.{member_number}
use Rattle.spec_loading.specs.spec_binary.Options.{◌>>=◌}
use Rattle.spec_loading.specs.spec_runtime.Memories.{MemoryInstance}
use Rattle.spec_loading.specs.spec_execution.Activations.{Activation}
use Rattle.spec_loading.specs.spec_execution.Segments.{Performed, segment_effects}
use Rattle.spec_loading.specs.spec_execution.Runs.{Frame, call, calling, became}
use Rattle.spec_loading.specs.spec_execution.Runs as frames
use Rattle.spec_loading.specs.spec_execution.Instances.{ModuleParts, module_hosts, module_view}
use Rattle.spec_loading.specs.spec_execution.OneModule.{Starting, ModuleState, module_step, module_system, opened_state}
use Rattle.spec_loading.specs.spec_linking.Gathering.{IsSet}
use Rattle.spec_loading.specs.spec_linking.LinkedSets.{LinkedSet}
use Rattle.spec_loading.specs.Phases.{LoaderFrame, open_frame, open_global_frame}
use Rattle.spec_loading.specs.Loading.{LoaderState, goes_on, went}
use Rattle.spec_loading.specs.Members.{Store, set_view, uses_loader}
use Rattle.spec_loading.specs.LoadedSet.{SetState, member_placed, set_loading, set_system, set_opening}
use Rattle.merge_match.specs.Renumbering.{Numbers, activation, reference, values}
use Rattle.merge_match.specs.Bounded.{IsBounded}
use Rattle.merge_match.specs.Following.{Sharing}
use Rattle.merge_match.specs.Matching.{Below, Alike, Met, FramesMatch}
use Rattle.merge_match.specs.SameCode.{SameCode}
use Rattle.merge_match.specs.Laws.{HasParts}
use Rattle.merge_pieces.specs.Opcodes as op
use Rattle.merge_start.specs.Words.{Starts, place_code}
use Rattle.merge_start.specs.Running.{Does}
use Rattle.merge_start.specs.Started.{Same, HoldsSlots, IsOpened, MemberReady, IsReady, StartReady, OpenReady}
use Rattle.merge_start.specs.Points.{HandsOn, Promotes, places, Matched}

-- What placing comes to is what the code comes to: the store is the same after both, the memory is equal, and so is the trap.
pub record PlacedAs (merged : Module) (count : ℕ) (Shared : Sharing Store ModuleParts) (o : Option (Performed Store)) (code : List Instr)
    (before : ModuleParts) (memory : MemoryInstance) : Type 0 where
  pub placed : Performed Store
  pub is_placed : o ≡ Some placed
  pub parts : ModuleParts
  pub same : Shared placed.units parts
  pub runs : Does merged 2 count code (record { units = before; memory = memory }) [] (record { units = parts; memory = placed.memory }) [] placed.trap

-- The loader has raised the member's stage before it places it; the segment of the fresh slots is still what it was.
abbrev pub PlacingIsDone : Type 0
PlacingIsDone = (L : LinkedSet) (n : Numbers) (x : Starts) (merged : Module) → HasParts L n merged → (loader : LoaderState) (m : ℕ)
    → m < length L.set.members → (member : MemberReady L n x merged m) → (us : Store) (parts : ModuleParts) (memory : MemoryInstance)
    → Same L n x loader us parts → HoldsSlots L n x parts m
    → PlacedAs merged (4 * length (segment_effects (member_number L m) member.wasm) + 4) (Same L n x loader) (member_placed L m us memory) (place_code L n x m member.wasm) parts memory

-- where a frame of the loader is on top, the module steps as it does, and takes the host's answers as it does
abbrev pub FramesStepAsMerged : Type 0
FramesStepAsMerged = (L : LinkedSet) (n : Numbers) (x : Starts) (merged : Module) → HasParts L n merged → IsReady L n x merged
    → FramesMatch n (places L n x) (Same L n x) (set_loading L) (set_prices L) (module_step merged)

-- ---- opening while the program runs

-- the function that opens member m is about to be called
abbrev pub calls_opening : Starts → ℕ → Activation → List (Frame Starting) → ModuleParts → MemoryInstance → ModuleState
calls_opening x m b hs parts memory = record {
  units = parts;
  memory = memory;
  stack = frames.Active (record b { rest = Index op.call (x.opening m) ∷ b.rest }) ∷ hs;
  status = Moving;
}

-- The call leads to what stands for the frame that opens the member, where the handle will be returned to what called.
abbrev pub MembersOpenAsMerged : Type 0
MembersOpenAsMerged = (L : LinkedSet) (n : Numbers) (x : Starts) (merged : Module) → IsSet L.set → (m : ℕ) → m < length L.set.members
    → OpenReady L n x merged m → (s : SetState) (parts : ModuleParts) → Same L n x s.loader s.run.units parts
    → (fs : List (Frame LoaderFrame)) (hs : List (Frame Starting)) → Below n (places L n x) 1 fs hs → (b : Activation) → HandsOn b
    → (u : ModuleState) × (module_step merged (calls_opening x m b hs parts s.run.memory) ≡ Some u)
    × Matched L n x (goes_on s (frames.Marked (open_frame L.set m) ∷ fs)) u

-- the same, where what called promotes the closure of the member before it returns the handle
abbrev pub MembersPromoteAsMerged : Type 0
MembersPromoteAsMerged = (L : LinkedSet) (n : Numbers) (x : Starts) (merged : Module) → IsSet L.set → (m : ℕ) → m < length L.set.members
    → OpenReady L n x merged m → (s : SetState) (parts : ModuleParts) → Same L n x s.loader s.run.units parts
    → (fs : List (Frame LoaderFrame)) (hs : List (Frame Starting)) → Below n (places L n x) 1 fs hs → (b : Activation) → Promotes L x m b
    → (u : ModuleState) × (module_step merged (calls_opening x m b hs parts s.run.memory) ≡ Some u)
    × Matched L n x (goes_on s (frames.Marked (open_global_frame L.set m) ∷ fs)) u

-- ---- the functions of the loader

-- Where code calls a function of the loader, the module's function of its number leads to what the set's step leads to, and has no step
-- where the set has none.
abbrev pub CallsAreAnswered : LinkedSet → Numbers → Starts → Module → Type 0
CallsAreAnswered L n x merged = (s : SetState) (t : ModuleState) → Alike (Same L n x) s t → IsBounded s.run.memory → (a : Activation)
    (fs : List (Frame LoaderFrame)) (gs : List (Frame Starting)) → Below n (places L n x) a.results fs gs → (which : LoaderCall)
    → (d : ℕ) → length (activations gs) + 3 ≤ d → Met n (places L n x) (Same L n x) (module_step merged) d
    (next_cost (set_prices L) s (call (set_view L) s.run.units s.run.memory (calling a fs) a.values (Loader which)))
    (call (set_view L) s.run.units s.run.memory (calling a fs) a.values (Loader which) >>= went (set_loading L) s)
    (call (module_view merged) t.units s.run.memory (calling (activation n a) gs) (values n a.values) (reference n (Loader which))
    >>= became (module_hosts merged) t)

abbrev pub UnusedIsAnswered : Type 0
UnusedIsAnswered = (L : LinkedSet) (n : Numbers) (x : Starts) (merged : Module) → HasParts L n merged → uses_loader L ≡ false
    → CallsAreAnswered L n x merged

-- ---- the whole

-- Matching states, over a memory that ends before the last address. The definition names no module: t may be a state of any module that has
-- the code of the merged one.
abbrev pub MatchedWithin : LinkedSet → Numbers → Starts → SetState → ModuleState → Type 0
MatchedWithin L n x s t = Matched L n x s t × IsBounded s.run.memory

abbrev pub SetsStepAsMerged : Type 0
SetsStepAsMerged = (L : LinkedSet) (n : Numbers) (x : Starts) (merged : Module) → HasParts L n merged → IsReady L n x merged
    → CallsAreAnswered L n x merged → StepLaw (set_system L) (module_system merged) (MatchedWithin L n x)

-- the same, with what a step costs
abbrev pub SetsStepWithin : Type 0
SetsStepWithin = (L : LinkedSet) (n : Numbers) (x : Starts) (merged : Module) → HasParts L n merged → IsReady L n x merged
    → CallsAreAnswered L n x merged
    → CostLaw (set_system L) (module_system merged) (MatchedWithin L n x) (step_cost L) set_room module_depth

-- The runs from any two matching states agree, in both directions.
abbrev pub MatchedRunsAgree : Type 0
MatchedRunsAgree = (L : LinkedSet) (n : Numbers) (x : Starts) (merged : Module) → HasParts L n merged → IsReady L n x merged
    → CallsAreAnswered L n x merged → (s : SetState) (t : ModuleState) → MatchedWithin L n x s t
    → Agree (set_system L) (module_system merged) s t

-- The runs agree from the opening states on, where the module has the parts of the members and the generated code, and begins with what
-- they begin with.
abbrev pub SetsRunAsMerged : Type 0
SetsRunAsMerged = (L : LinkedSet) (n : Numbers) (x : Starts) (merged : Module) → HasParts L n merged → IsReady L n x merged
    → StartReady L n x merged → CallsAreAnswered L n x merged → IsBounded (set_opening L).run.memory → IsSet L.set → (parts : ModuleParts)
    → IsOpened L n x parts
    → Agree (set_system L) (module_system merged) (set_opening L) (opened_state merged x.starting parts (set_opening L).run.memory)

-- the same within the cost: one step more, by which the module calls its entry function
abbrev pub SetsRunWithin : Type 0
SetsRunWithin = (L : LinkedSet) (n : Numbers) (x : Starts) (merged : Module) → HasParts L n merged → IsReady L n x merged
    → StartReady L n x merged → CallsAreAnswered L n x merged → IsBounded (set_opening L).run.memory → IsSet L.set → (parts : ModuleParts)
    → IsOpened L n x parts
    → AgreeWithin (set_system L) (module_system merged) (step_cost L) set_room module_depth 1 (set_opening L)
    (opened_state merged x.starting parts (set_opening L).run.memory)

-- ---- a module with the code of the merged one

-- What the laws ask of the merged module holds of each module that has its types, imports, functions and bodies.
pub record CodeDecides (L : LinkedSet) (n : Numbers) (x : Starts) (merged other : Module) : Type 0 where
  pub parts : HasParts L n merged → HasParts L n other
  pub ready : IsReady L n x merged → IsReady L n x other
  pub calls : CallsAreAnswered L n x merged → CallsAreAnswered L n x other

abbrev pub SameCodeIsReady : Type 0
SameCodeIsReady = (L : LinkedSet) (n : Numbers) (x : Starts) (merged other : Module) → SameCode merged other → CodeDecides L n x merged other

-- So it steps as the set does from any two matching states, and the runs from them agree.
abbrev pub SetsStepAsOthers : Type 0
SetsStepAsOthers = (L : LinkedSet) (n : Numbers) (x : Starts) (merged other : Module) → HasParts L n merged → IsReady L n x merged
    → CallsAreAnswered L n x merged → SameCode merged other → StepLaw (set_system L) (module_system other) (MatchedWithin L n x)

abbrev pub OtherRunsAgree : Type 0
OtherRunsAgree = (L : LinkedSet) (n : Numbers) (x : Starts) (merged other : Module) → HasParts L n merged → IsReady L n x merged
    → CallsAreAnswered L n x merged → SameCode merged other → (s : SetState) (t : ModuleState) → MatchedWithin L n x s t
    → Agree (set_system L) (module_system other) s t
