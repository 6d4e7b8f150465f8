-- A sound activation has a step, and what it comes to is sound.
-- Part of the statement of laws: docs/LAWS.md, "Valid modules never get stuck" and "Laws of the
-- parts".
use Rattle.std.specs.Prelude.{◌≡◌, ℕ, List, [], ◌∷◌, Some, Ok, IsTrue}
use Rattle.std.specs.List.{All}
use Rattle.spec_execution.specs.spec_runs.Systems.{Moving, Waits}
use Rattle.spec_execution.specs.wasm_form.declared.module.Module.{Module}
use Rattle.spec_execution.specs.wasm_form.declared.runtime.Answer.{Answer}
use Rattle.spec_execution.specs.spec_binary.Modules.{SpellsModule}
use Rattle.spec_execution.specs.spec_validation.Context.{Context}
use Rattle.spec_execution.specs.spec_runtime.Memories.{MemoryInstance}
use Rattle.spec_execution.specs.spec_runtime.Hosts.{HostCall, answer_fits}
use Rattle.spec_execution.specs.spec_runtime.Names.{HostNames}
use Rattle.spec_execution.specs.Activations.{Activation, move}
use Rattle.spec_execution.specs.Views.{View}
use Rattle.spec_execution.specs.Runs.{Frame, Active, carried_out, taken}
use Rattle.spec_execution.specs.Instances.{Instances, store_view, module_view, module_names}
use Rattle.spec_execution.specs.OneModule.{ModuleState, module_step, module_opening, module_run}
use Rattle.spec_safety.specs.Laws.{IsAlone}
use Rattle.spec_safety.specs.TypedViews.{HoldTypes, IsTypedView, AreCounted, IsSoundView}
use Rattle.spec_safety.specs.TypedFrames.{OnMark, Stand, IsSoundNext}
use Rattle.spec_safety.specs.TypedStores.{AreTyped}
use Rattle.spec_safety.specs.SoundModules.{HoldsBytes, HoldsNumbers, IsSound}
use Rattle.spec_safety.specs.ValueTypes.{IsOfBytes, IsMemory}

-- over any view, and whatever marks stand for
abbrev pub CodeStepIsSound : {Units Mark : Type 0} → View Units → (ℕ → Context) → (Units → Type 0) → OnMark Mark → Type 0
CodeStepIsSound {Units} {Mark} V N Kept M = IsTypedView V N Kept
    → (us : Units) (memory : MemoryInstance) (a : Activation) (frames : List (Frame Mark))
    → Kept us → IsMemory memory → Stand V N M (Active a ∷ frames) []
    → IsSoundNext V N Kept M (carried_out V us memory frames (move (V.declared a.unit) a))

-- units over a store
abbrev pub StoreIsTyped : Type 0
StoreIsTyped = (I : Instances) (N : ℕ → Context) → AreTyped I N → IsTypedView (store_view I) N (HoldTypes (store_view I) N)

-- so the view of them is sound, where each has as many names as it counts
abbrev pub StoreIsSound : Type 0
StoreIsSound = (I : Instances) → AreTyped I I.names → ((unit : ℕ) → AreCounted (I.names unit) (I.counts unit)) → IsSoundView (store_view I)

-- the code of a valid module
abbrev pub CheckedIsTyped : Type 0
CheckedIsTyped = (m : Module) → IsAlone m → HoldsNumbers m → IsTypedView (module_view m) (module_names m) (HoldTypes (module_view m) (module_names m))

abbrev pub CheckedIsSound : Type 0
CheckedIsSound = (m : Module) → IsAlone m → HoldsNumbers m → IsSoundView (module_view m)

-- whatever bytes spell a module, its constants are numbers of their types
abbrev pub SpelledHoldNumbers : Type 0
SpelledHoldNumbers = (m : Module) (bytes : List ℕ) → SpellsModule m bytes → HoldsNumbers m

-- the run of one module: a step from a sound state leads to a sound one
abbrev pub ModuleStepIsSound : Type 0
ModuleStepIsSound = (m : Module) (s : ModuleState) → IsAlone m → HoldsNumbers m → IsSound m s → s.status ≡ Moving
    → (t : ModuleState) × (module_step m s ≡ Some t) × IsSound m t

abbrev pub ModuleAnswerIsSound : Type 0
ModuleAnswerIsSound = (m : Module) (s : ModuleState) (call : HostCall) (a : Answer) → IsAlone m → HoldsNumbers m → IsSound m s → s.status ≡ Waits call
    → IsTrue (answer_fits call s.memory a) → IsOfBytes a → IsSound m (taken a s)

abbrev pub ModuleOpensSound : Type 0
ModuleOpensSound = (m : Module) (names : HostNames) (s : ModuleState) → IsAlone m → HoldsNumbers m → HoldsBytes m → module_opening m names ≡ Ok s
    → IsSound m s

-- each state that its run comes to, for any answers of bytes, is sound
abbrev pub ModuleRunIsSound : Type 0
ModuleRunIsSound = (m : Module) (names : HostNames) (opening : ModuleState) (answers : List Answer) (n : ℕ) → IsAlone m → HoldsNumbers m
    → HoldsBytes m → All IsOfBytes answers
    → module_opening m names ≡ Ok opening → IsSound m (module_run m opening answers n).state

-- So valid code never gets stuck: such a state has a step, waits or has ended.
abbrev pub ModuleNeverStuck : Type 0
ModuleNeverStuck = (m : Module) (names : HostNames) (opening : ModuleState) (answers : List Answer) (n : ℕ) → IsAlone m → HoldsNumbers m
    → HoldsBytes m → All IsOfBytes answers → module_opening m names ≡ Ok opening
    → (module_run m opening answers n).state.status ≡ Moving → (t : ModuleState) × (module_step m (module_run m opening answers n).state ≡ Some t)
