-- What each step of units that a loader opens keeps, and each answer, where effects and placing keep it.
use Rattle.std.proofs.Common.{ℕ, List, [], ◌∷◌, reverse, nat_lt, map, Option, Some, None, IfSome, Bool, true, false, if◌then◌else◌, refl}
use Rattle.spec_loading.specs.wasm_form.declared.types.FuncType.{FuncType}
use Rattle.spec_loading.specs.wasm_form.declared.runtime.Ref.{Ref}
use Rattle.spec_loading.specs.wasm_form.declared.runtime.Ref.TheVariants.{Own, Loader, Host, Stub}
use Rattle.spec_loading.specs.wasm_form.declared.runtime.Trap.{Trap}
use Rattle.spec_loading.specs.wasm_form.declared.runtime.Trap.TheVariants as trap
use Rattle.spec_loading.specs.wasm_form.declared.runtime.Value.{Value}
use Rattle.spec_loading.specs.wasm_form.declared.runtime.Value.TheVariants.{Num}
use Rattle.spec_loading.specs.wasm_form.declared.runtime.Write.{Write}
use Rattle.spec_loading.specs.wasm_form.declared.runtime.Answer.{Answer}
use Rattle.spec_loading.specs.wasm_form.declared.runtime.Answer.TheVariants.{Reply, Exit}
use Rattle.spec_loading.specs.spec_runs.Systems.{only_if, Waits}
use Rattle.spec_loading.specs.spec_binary.Options.{◌>>=◌}
use Rattle.spec_loading.specs.spec_binary.SameTypes.{same_function_type}
use Rattle.spec_loading.specs.spec_runtime.Memories.{MemoryInstance, overwritten}
use Rattle.spec_loading.specs.spec_runtime.Tables.{entry_at}
use Rattle.spec_loading.specs.spec_runtime.Names.{HostName}
use Rattle.spec_loading.specs.spec_runtime.Hosts.{all_written}
use Rattle.spec_loading.specs.spec_execution.Values.{take_values}
use Rattle.spec_loading.specs.spec_execution.Activations.{Activation, Move, On, Calls, CallsEntry, Refers, Does, Leaves, Fails, Stuck, move}
use Rattle.spec_loading.specs.spec_execution.Views.{View, type_of, Effected, performed}
use Rattle.spec_loading.specs.spec_execution.Views as effects
use Rattle.spec_loading.specs.spec_execution.Segments.{Performed}
use Rattle.spec_loading.specs.spec_execution.Runs.{Frame, Caller, Next, Goes, Asks, Loads, Ends, Traps, State, call, calling, call_entry, left_with, effected_with, carried_out, stands, returned, taken}
use Rattle.spec_loading.specs.spec_execution.Runs as frames
use Rattle.spec_loading.specs.declared.task.Phase.{Phase}
use Rattle.spec_loading.specs.declared.task.Phase.TheVariants.{Place, Start, Relocate, Construct}
use Rattle.spec_loading.specs.declared.task.Task.{Task}
use Rattle.spec_loading.specs.declared.task.After.{After}
use Rattle.spec_loading.specs.declared.task.After.TheVariants.{CallEntry, GiveHandle, GiveAndPromote}
use Rattle.spec_loading.specs.Phases.{LoaderFrame, stage_of}
use Rattle.spec_loading.specs.Loading.{Loading, LoadedState, with_run, goes_on, stage_in, comes_by_itself, LoaderAnswer, Comes, comes_to, call_next, ended_by, place_next, work_next, raised, task_next, after_next, frame_next, loaded_next, answered, went, came_to, loaded_step}
use Rattle.spec_loading.specs.Loading as loading
use Rattle.spec_keeping.proofs.Effects.{looked, Keeps, KeptAfter, performed_kept}

-- ---- calls and moves

module _ {Units : Type 0} (V : View Units) (K : Units → MemoryInstance → Type 0) (keeps : Keeps V K) where
  module _ {Mark : Type 0} where
    abbrev pub KeptNext : Next Units Mark → Type 0
    KeptNext (Goes us memory fs) = K us memory
    KeptNext (Asks e args fs) = Unit {0}
    KeptNext (Loads which args fs) = Unit {0}
    KeptNext Ends = Unit {0}
    KeptNext (Traps why) = Unit {0}

    module _ (us : Units) (memory : MemoryInstance) (is : K us memory) where
      pub call_kept : (caller : Caller Mark) (values : List Value) (r : Ref) → IfSome (call V us memory caller values r) KeptNext
      call_kept caller values (Own unit f) =
          looked KeptNext (V.code unit f) _ (λ x q. looked KeptNext (take_values (reverse x.ty.params) values) _ (λ p h. is))
      call_kept caller values (Host e) =
          looked KeptNext (V.host e) _ (λ ty q. looked KeptNext (take_values (reverse ty.params) values) _ (λ p h. tt))
      call_kept caller values (Loader which) =
          looked KeptNext (only_if V.has_loader _) _ (λ ty q. looked KeptNext (take_values (reverse ty.params) values) _ (λ p h. tt))
      call_kept caller values (Stub unit f) =
          looked KeptNext (V.stub unit f) _ (λ ty q. looked KeptNext (take_values (reverse ty.params) values) _ (λ p h. tt))

      module _ (fs : List (Frame Mark)) where
        entry_kept : (a : Activation) (ty : FuncType) (o : Option (Option Ref)) → IfSome (call_entry V us memory fs a ty o) KeptNext
        entry_kept a ty None = tt
        entry_kept a ty (Some None) = tt
        entry_kept a ty (Some (Some r)) = looked KeptNext (type_of V r) _ (λ found q. go (same_function_type found ty))
          where
            go : (b : Bool) → IfSome (if b then call V us memory (calling a fs) a.values r else Some (Traps trap.WrongType)) KeptNext
            go true = call_kept (calling a fs) a.values r
            go false = tt

        left_kept : (values : List Value) (gs : List (Frame Mark)) → KeptNext (left_with us memory values gs)
        left_kept values [] = tt
        left_kept values (g ∷ gs) = is

        effected_kept : (a : Activation) (e : Effected Units) → KeptAfter V K keeps e → KeptNext (effected_with fs a e)
        effected_kept a (effects.Gives values us' memory') after = after
        effected_kept a (effects.Traps why) after = tt

        does_kept : (a : Activation) (o : Option (Effected Units)) → IfSome o (KeptAfter V K keeps)
            → IfSome (o >>= λ e. Some (effected_with fs a e)) KeptNext
        does_kept a None after = tt
        does_kept a (Some e) after = effected_kept a e after

        pub carried_kept : (x : Move) → IfSome (carried_out V us memory fs x) KeptNext
        carried_kept (On a) = is
        carried_kept (Calls f a) = looked KeptNext (V.target a.unit f) _ (λ r q. call_kept (calling a fs) a.values r)
        carried_kept (CallsEntry t ty i a) =
            looked KeptNext (V.table us a.unit t) _ (λ table q. looked KeptNext (V.declared a.unit ty) _ (λ f h. entry_kept a f (entry_at table i)))
        carried_kept (Refers f a) = looked KeptNext (V.target a.unit f) _ (λ r q. is)
        carried_kept (Does e a) = does_kept a (performed V us memory a.unit e) (performed_kept V K keeps us memory a.unit is e)
        carried_kept (Leaves values) = left_kept values fs
        carried_kept (Fails why) = tt
        carried_kept Stuck = tt

-- ---- the loaded run

module _ {Units : Type 0} (D : Loading Units) (K : Units → MemoryInstance → Type 0) (keeps : Keeps D.view K)
    (placed : (m : ℕ) (us : Units) (memory : MemoryInstance) → K us memory → IfSome (D.placed m us memory) (λ p. K p.units p.memory)) where
  abbrev pub StateKept : LoadedState Units → Type 0
  StateKept s = K s.run.units s.run.memory

  abbrev NextKept : Next Units LoaderFrame → Type 0
  NextKept = KeptNext D.view K keeps

  answered_kept : (s : LoadedState Units) → StateKept s → (under : List (Frame LoaderFrame)) (x : LoaderAnswer) → StateKept (answered s under x)
  answered_kept s is [] (loading.Gives n loader) = is
  answered_kept s is (f ∷ fs) (loading.Gives n loader) = is
  answered_kept s is under (loading.Traps why) = is
  answered_kept s is under (loading.Opens frame) = is

  went_kept : (s : LoadedState Units) → StateKept s → (x : Next Units LoaderFrame) → NextKept x → IfSome (went D s x) StateKept
  went_kept s is (Goes us memory fs) after = after
  went_kept s is (Asks e args fs) after = go (D.names e)
    where
      go : (o : Option HostName)
          → IfSome ((o >>= λ h. Some (stands s.run fs (Waits (record { host = h; args = args })))) >>= λ run. Some (with_run s run)) StateKept
      go None = tt
      go (Some h) = is
  went_kept s is (Loads which args under) after =
      looked StateKept (D.answer which args s.run.memory s.loader) _ (λ x q. answered_kept s is under x)
  went_kept s is Ends after = is
  went_kept s is (Traps why) after = is

  -- what a step comes to, with the state over which it does
  abbrev ComesKept : Comes Units → Type 0
  ComesKept c = StateKept c.state × IfSome c.next NextKept

  comes_kept : (s : LoadedState Units) → StateKept s → (o : Option (Next Units LoaderFrame)) → IfSome o NextKept → IfSome (comes_to s o) ComesKept
  comes_kept s is None after = tt
  comes_kept s is (Some x) after = (is, after)

  call_next_kept : (s : LoadedState Units) → StateKept s → (fs : List (Frame LoaderFrame)) (r : Option Ref) → IfSome (call_next D s fs r) ComesKept
  call_next_kept s is fs None = (is, tt)
  call_next_kept s is fs (Some r) = comes_kept s is _ (call_kept D.view K keeps s.run.units s.run.memory is (λ values. fs) [] r)

  ended_kept : (s : LoadedState Units) → StateKept s → (fs : List (Frame LoaderFrame)) (o : Option Trap) → StateKept (ended_by s fs o)
  ended_kept s is fs None = is
  ended_kept s is fs (Some why) = is

  place_kept : (s : LoadedState Units) (fs : List (Frame LoaderFrame)) (o : Option (Performed Units)) → IfSome o (λ p. K p.units p.memory)
      → IfSome (o >>= place_next s fs) ComesKept
  place_kept s fs None after = tt
  place_kept s fs (Some p) after = (ended_kept (with_run s (record s.run { units = p.units; memory = p.memory })) after fs p.trap, tt)

  work_kept : (s : LoadedState Units) → StateKept s → (fs : List (Frame LoaderFrame)) (phase : Phase) (m : ℕ) → IfSome (work_next D s fs phase m) ComesKept
  work_kept s is fs Place m = place_kept s fs (D.placed m s.run.units s.run.memory) (placed m s.run.units s.run.memory is)
  work_kept s is fs Start m = looked ComesKept (D.callee Start m) _ (λ r q. call_next_kept s is fs r)
  work_kept s is fs Relocate m = looked ComesKept (D.callee Relocate m) _ (λ r q. call_next_kept s is fs r)
  work_kept s is fs Construct m = looked ComesKept (D.callee Construct m) _ (λ r q. call_next_kept s is fs r)

  task_kept : (s : LoadedState Units) → StateKept s → (fs : List (Frame LoaderFrame)) (task : Task) → IfSome (task_next D s fs task) ComesKept
  task_kept s is fs task = looked ComesKept (stage_in s.loader task.member) _ (λ stage q. go (nat_lt stage (stage_of task.phase)))
    where
      go : (b : Bool) → IfSome (if b then work_next D (raised s task.member (stage_of task.phase)) fs task.phase task.member
          else comes_by_itself (goes_on s fs)) ComesKept
      go true = work_kept (raised s task.member (stage_of task.phase)) is fs task.phase task.member
      go false = (is, tt)

  after_kept : (s : LoadedState Units) → StateKept s → (under : List (Frame LoaderFrame)) (after : After) → IfSome (after_next D s under after) ComesKept
  after_kept s is under CallEntry = looked ComesKept D.entry _ (λ r q. call_next_kept s is under (Some r))
  after_kept s is [] (GiveHandle m) = (is, tt)
  after_kept s is (f ∷ fs) (GiveHandle m) = (is, tt)
  after_kept s is [] (GiveAndPromote m) = (is, tt)
  after_kept s is (f ∷ fs) (GiveAndPromote m) = (is, tt)

  frame_kept : (s : LoadedState Units) → StateKept s → (under : List (Frame LoaderFrame)) (after : After) (tasks : List Task)
      → IfSome (frame_next D s under after tasks) ComesKept
  frame_kept s is under after [] = after_kept s is under after
  frame_kept s is under after (task ∷ tasks) = task_kept s is (frames.Marked (record { tasks = tasks; after = after }) ∷ under) task

  next_kept : (s : LoadedState Units) → StateKept s → (stack : List (Frame LoaderFrame)) → IfSome (loaded_next D s stack) ComesKept
  next_kept s is [] = tt
  next_kept s is (frames.Active a ∷ under) =
      comes_kept s is _ (carried_kept D.view K keeps s.run.units s.run.memory is under (move (D.view.declared a.unit) a))
  next_kept s is (frames.Marked frame ∷ under) = frame_kept s is under frame.after frame.tasks

  came_kept : (s : LoadedState Units) → StateKept s → (o : Option (Next Units LoaderFrame)) → IfSome o NextKept → IfSome (came_to D s o) StateKept
  came_kept s is None after = is
  came_kept s is (Some x) after = went_kept s is x after

  from_kept : (o : Option (Comes Units)) → IfSome o ComesKept → IfSome (o >>= λ c. came_to D c.state c.next) StateKept
  from_kept None after = tt
  from_kept (Some c) after = came_kept c.state after.0 c.next after.1

  pub step_kept : (s : LoadedState Units) → StateKept s → IfSome (loaded_step D s) StateKept
  step_kept s is = from_kept (loaded_next D s s.run.stack) (next_kept s is s.run.stack)

  -- ---- answers

  writes_kept : (us : Units) (writes : List Write) (memory : MemoryInstance) → K us memory → K us (all_written writes memory)
  writes_kept us [] memory is = is
  writes_kept us (w ∷ ws) memory is =
      let next : MemoryInstance = record memory { bytes = overwritten memory.bytes w.at w.bytes } in
      writes_kept us ws next (keeps.memory us memory next refl is)

  returned_kept : (run : State Units LoaderFrame) → K run.units run.memory → (values : List Value) (fs : List (Frame LoaderFrame))
      → K (returned run values fs).units (returned run values fs).memory
  returned_kept run is values [] = is
  returned_kept run is values (f ∷ fs) = is

  pub answer_kept : (s : LoadedState Units) → StateKept s → (a : Answer) → StateKept (with_run s (taken a s.run))
  answer_kept s is (Reply results writes) =
      let run : State Units LoaderFrame = record s.run { memory = all_written writes s.run.memory } in
      returned_kept run (writes_kept s.run.units writes s.run.memory is) (reverse (map Num results)) s.run.stack
  answer_kept s is (Exit code) = is
