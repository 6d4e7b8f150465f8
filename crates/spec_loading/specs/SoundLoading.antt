-- When a state of the run of units that a loader opens is sound.
-- Part of the statement of laws: docs/LAWS.md, "Linked sets never get stuck".
use Rattle.std.specs.Prelude.{◌≡◌, ◌≢◌, ◌<◌, ◌≤◌, ◌-◌, ◌^◌, ℕ, List, [], ◌∷◌, length, nat_eq, reverse, Option, Some, IfSome}
use Rattle.std.specs.List.{All, IsDistinct}
use Rattle.spec_linking.specs.spec_runs.Systems.{Status, Moving, Waits, Returned, Exited, Trapped}
use Rattle.spec_linking.specs.wasm_form.declared.types.ValType.{ValType}
use Rattle.spec_linking.specs.wasm_form.declared.types.ValType.TheVariants.{I32}
use Rattle.spec_linking.specs.wasm_form.declared.types.FuncType.{FuncType}
use Rattle.spec_linking.specs.wasm_form.declared.runtime.LoaderCall.{LoaderCall}
use Rattle.spec_linking.specs.wasm_form.declared.runtime.Ref.{Ref}
use Rattle.spec_linking.specs.wasm_form.declared.runtime.Trap.{Trap}
use Rattle.spec_linking.specs.spec_binary.Indices.{nullary}
use Rattle.spec_linking.specs.spec_runtime.Names.{HostName}
use Rattle.spec_linking.specs.spec_runtime.Hosts.{HostCall}
use Rattle.spec_linking.specs.spec_runtime.Memories.{MemoryInstance}
use Rattle.spec_linking.specs.spec_validation.Context.{Context}
use Rattle.spec_linking.specs.spec_execution.Views.{View, type_of, loader_type}
use Rattle.spec_linking.specs.spec_execution.Segments.{Performed}
use Rattle.spec_linking.specs.spec_execution.Runs.{Frame}
use Rattle.spec_loading.specs.declared.task.Phase.{Phase}
use Rattle.spec_loading.specs.declared.task.Task.{Task}
use Rattle.spec_loading.specs.declared.task.After.{After}
use Rattle.spec_loading.specs.declared.task.After.TheVariants.{CallEntry, GiveHandle, GiveAndPromote}
use Rattle.spec_loading.specs.Phases.{LoaderFrame}
use Rattle.spec_loading.specs.Loading.{LoaderState, LoaderAnswer, Gives, Traps, Opens, Loading, LoadedState}
use Rattle.spec_safety.specs.ValueTypes.{AreArguments, IsMemory}
use Rattle.spec_safety.specs.TypedViews.{IsTypedView}
use Rattle.spec_safety.specs.TypedFrames.{OnMark, IsCalledOver, Stand}

-- a function that takes and gives nothing
abbrev pub IsNullary : {Units : Type 0} → View Units → Ref → Type 0
IsNullary V r = type_of V r ≡ Some nullary

-- what follows the last task: the entry at the bottom, or the handle of a member for what takes one i32
abbrev pub Follows : ℕ → After → List (Frame LoaderFrame) → (List ValType → Type 0) → Type 0
Follows members CallEntry under stands = under ≡ []
Follows members (GiveHandle m) under stands = (m < members) × stands (I32 ∷ [])
Follows members (GiveAndPromote m) under stands = (m < members) × stands (I32 ∷ [])

-- its tasks are of members that there are
abbrev pub on_loader : ℕ → OnMark LoaderFrame
on_loader members frame under stands = All (λ (t : Task). t.member < members) frame.tasks × Follows members frame.after under stands

-- What the loader keeps of so many members: each is at a stage of 0 to 4, the error is one of 0 to 5, and those that are promoted are
-- distinct members.
pub record IsSoundLoader (members : ℕ) (loader : LoaderState) : Type 0 where
  pub count : length loader.stages ≡ members
  pub stages : All (λ n. n ≤ 4) loader.stages
  pub error : loader.error ≤ 5
  pub promoted : All (λ m. m < members) loader.promoted
  pub apart : IsDistinct nat_eq loader.promoted

module _ {Units : Type 0} (D : Loading Units) (N : ℕ → Context) (Kept : Units → Type 0) (members : ℕ) where
  -- A moving state has something on its call stack. A wait is for a host function that an entry names, with arguments of its type, and
  -- stands on what takes its results.
  abbrev pub StacksFit : Status HostCall Trap → List (Frame LoaderFrame) → Type 0
  StacksFit Moving stack = (stack ≢ []) × Stand D.view N (on_loader members) stack []
  StacksFit (Waits call) stack = (entry : ℕ) × (D.names entry ≡ Some call.host) × AreArguments D.view call.host.ty call.args
      × IsCalledOver stack call.host.ty × Stand D.view N (on_loader members) stack (reverse call.host.ty.results)
  StacksFit Returned stack = Unit {0}
  StacksFit (Exited code) stack = Unit {0}
  StacksFit (Trapped why) stack = Unit {0}

  pub record IsSound (s : LoadedState Units) : Type 0 where
    pub units : Kept s.run.units
    pub memory : IsMemory s.run.memory
    pub loader : IsSoundLoader members s.loader
    pub stack : StacksFit s.run.status s.run.stack

  -- what a call of the loader's functions comes to
  abbrev pub GivesHandle : After → Type 0
  GivesHandle CallEntry = ⊥
  GivesHandle (GiveHandle m) = m < members
  GivesHandle (GiveAndPromote m) = m < members

  abbrev pub IsSoundAnswer : LoaderAnswer → Type 0
  IsSoundAnswer (Gives n loader) = (n < 2 ^ 32) × IsSoundLoader members loader
  IsSoundAnswer (Traps why) = Unit {0}
  IsSoundAnswer (Opens frame) = All (λ (t : Task). t.member < members) frame.tasks × GivesHandle frame.after

  -- what is so of the units and of what the loader does with them
  pub record IsSoundLoading : Type 0 where
    pub view : IsTypedView D.view N Kept
    pub hosts : (entry : ℕ) (ty : FuncType) → D.view.host entry ≡ Some ty → (h : HostName) × (D.names entry ≡ Some h) × (h.ty ≡ ty)
    pub placed : (m : ℕ) (us : Units) (memory : MemoryInstance) → m < members → Kept us → IsMemory memory
        → (p : Performed Units) × (D.placed m us memory ≡ Some p) × Kept p.units × IsMemory p.memory
    pub callee : (phase : Phase) (m : ℕ) → m < members → (o : Option Ref) × (D.callee phase m ≡ Some o) × IfSome o (IsNullary D.view)
    pub entry : (r : Ref) × (D.entry ≡ Some r) × IsNullary D.view r
    pub few : members < 2 ^ 32 - 1
    pub promoting : (m : ℕ) (loader : LoaderState) → m < members → IsSoundLoader members loader
        → IsSoundLoader members (record loader { promoted = D.promote m loader.promoted })
    pub answer : (which : LoaderCall) (args : List ℕ) (memory : MemoryInstance) (loader : LoaderState) → AreArguments D.view (loader_type which) args
        → IsSoundLoader members loader → (x : LoaderAnswer) × (D.answer which args memory loader ≡ Some x) × IsSoundAnswer x
