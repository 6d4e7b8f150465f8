-- While the entry isn't called, the frame of the loader that calls it stays at the bottom of the call stack.
use Rattle.std.proofs.Common.{◌≡◌, ◌⊎◌, ℕ, List, [], ◌∷◌, reverse, nat_lt, Option, Some, None, IfSome, Bool, true, false, ◌||◌, if◌then◌else◌, inl, inr, refl}
use Rattle.std.specs.List.{list_any}
use Rattle.spec_loading.specs.wasm_form.declared.types.FuncType.{FuncType}
use Rattle.spec_loading.specs.wasm_form.declared.runtime.Ref.{Ref}
use Rattle.spec_loading.specs.wasm_form.declared.runtime.Ref.TheVariants.{Own, Loader, Host, Stub}
use Rattle.spec_loading.specs.wasm_form.declared.runtime.Trap.{Trap}
use Rattle.spec_loading.specs.wasm_form.declared.runtime.Trap.TheVariants as trap
use Rattle.spec_loading.specs.wasm_form.declared.runtime.Value.{Value}
use Rattle.spec_loading.specs.spec_runs.Systems.{only_if, Waits, Trapped}
use Rattle.spec_loading.specs.spec_binary.Options.{◌>>=◌}
use Rattle.spec_loading.specs.spec_binary.SameTypes.{same_function_type}
use Rattle.spec_loading.specs.spec_runtime.Memories.{MemoryInstance}
use Rattle.spec_loading.specs.spec_runtime.Tables.{entry_at}
use Rattle.spec_loading.specs.spec_runtime.Names.{HostName}
use Rattle.spec_loading.specs.spec_execution.Values.{take_values}
use Rattle.spec_loading.specs.spec_execution.Activations.{Activation, Move, On, Calls, CallsEntry, Refers, Does, Leaves, Fails, Stuck, move}
use Rattle.spec_loading.specs.spec_execution.Views.{View, type_of, Effected, performed}
use Rattle.spec_loading.specs.spec_execution.Views as effects
use Rattle.spec_loading.specs.spec_execution.Segments.{Performed}
use Rattle.spec_loading.specs.spec_execution.Runs.{Frame, Caller, Next, Goes, Asks, Loads, Ends, Traps, call, calling, call_entry, left_with, effected_with, carried_out, stands}
use Rattle.spec_loading.specs.spec_execution.Runs as frames
use Rattle.spec_loading.specs.declared.task.Phase.{Phase}
use Rattle.spec_loading.specs.declared.task.Phase.TheVariants.{Place, Start, Relocate, Construct}
use Rattle.spec_loading.specs.declared.task.Task.{Task}
use Rattle.spec_loading.specs.declared.task.After.{After}
use Rattle.spec_loading.specs.declared.task.After.TheVariants.{CallEntry, GiveHandle, GiveAndPromote}
use Rattle.spec_loading.specs.Phases.{LoaderFrame, stage_of}
use Rattle.spec_loading.specs.Loading.{Loading, LoadedState, with_run, goes_on, stage_in, comes_by_itself, LoaderAnswer, Comes, comes_to, call_next, ended_by, place_next, work_next, raised, task_next, promoting, gives, frame_next, loaded_next, answered, went, came_to, loaded_step}
use Rattle.spec_loading.specs.Loading as loading
use Rattle.spec_snapshots.specs.Causes.{calls_entry, is_startup}
use Rattle.spec_snapshots.specs.Causes as causes

abbrev pub Starts : List (Frame LoaderFrame) → Type 0
Starts fs = list_any is_startup fs ≡ true

looked : {A B : Type 0} (P : B → Type 0) (o : Option A) (f : A → Option B) → ((x : A) → IfSome (f x) P) → IfSome (o >>= f) P
looked P None f all = tt
looked P (Some x) f all = all x

or_right : (b c : Bool) → c ≡ true → (b || c) ≡ true
or_right true c e = refl
or_right false c e = e

-- ---- calls and moves

abbrev NextStarts : {Units : Type 0} → Next Units LoaderFrame → Type 0
NextStarts (Goes us memory fs) = Starts fs
NextStarts (Asks e args fs) = Starts fs
NextStarts (Loads which args fs) = Starts fs
NextStarts Ends = ⊥
NextStarts (Traps why) = Unit {0}

module _ {Units : Type 0} (V : View Units) (us : Units) (memory : MemoryInstance) where
  call_over : (caller : Caller LoaderFrame) → ((vs : List Value) → Starts (caller vs)) → (values : List Value) (r : Ref)
      → IfSome (call V us memory caller values r) NextStarts
  call_over caller k values (Own unit f) =
      looked NextStarts (V.code unit f) _ (λ x. looked NextStarts (take_values (reverse x.ty.params) values) _ (λ p. k p.1))
  call_over caller k values (Host e) = looked NextStarts (V.host e) _ (λ ty. looked NextStarts (take_values (reverse ty.params) values) _ (λ p. k p.1))
  call_over caller k values (Loader which) =
      looked NextStarts (only_if V.has_loader _) _ (λ ty. looked NextStarts (take_values (reverse ty.params) values) _ (λ p. k p.1))
  call_over caller k values (Stub unit f) =
      looked NextStarts (V.stub unit f) _ (λ ty. looked NextStarts (take_values (reverse ty.params) values) _ (λ p. tt))

  module _ (fs : List (Frame LoaderFrame)) (k : Starts fs) where
    entry_over : (a : Activation) (ty : FuncType) (o : Option (Option Ref)) → IfSome (call_entry V us memory fs a ty o) NextStarts
    entry_over a ty None = tt
    entry_over a ty (Some None) = tt
    entry_over a ty (Some (Some r)) = looked NextStarts (type_of V r) _ (λ found. go (same_function_type found ty))
      where
        go : (b : Bool) → IfSome (if b then call V us memory (calling a fs) a.values r else Some (Traps trap.WrongType)) NextStarts
        go true = call_over (calling a fs) (λ vs. k) a.values r
        go false = tt

    effected_over : (a : Activation) (e : Effected Units) → NextStarts (effected_with fs a e)
    effected_over a (effects.Gives values us' memory') = k
    effected_over a (effects.Traps why) = tt

  left_over : (values : List Value) (gs : List (Frame LoaderFrame)) → Starts gs → NextStarts (left_with us memory values gs)
  left_over values [] k = absurd cc
  left_over values (frames.Active a ∷ gs) k = k
  left_over values (frames.Marked mark ∷ gs) k = k

  carried_over : (fs : List (Frame LoaderFrame)) → Starts fs → (x : Move) → IfSome (carried_out V us memory fs x) NextStarts
  carried_over fs k (On a) = k
  carried_over fs k (Calls f a) = looked NextStarts (V.target a.unit f) _ (λ r. call_over (calling a fs) (λ vs. k) a.values r)
  carried_over fs k (CallsEntry t ty i a) =
      looked NextStarts (V.table us a.unit t) _ (λ table. looked NextStarts (V.declared a.unit ty) _ (λ f. entry_over fs k a f (entry_at table i)))
  carried_over fs k (Refers f a) = looked NextStarts (V.target a.unit f) _ (λ r. k)
  carried_over fs k (Does e a) = looked NextStarts (performed V us memory a.unit e) _ (λ done. effected_over fs k a done)
  carried_over fs k (Leaves values) = left_over values fs k
  carried_over fs k (Fails why) = tt
  carried_over fs k Stuck = tt

-- ---- the loaded run

module _ {Units : Type 0} (D : Loading Units) where
  -- a trap has ended the run
  abbrev pub HasTrapped : LoadedState Units → Type 0
  HasTrapped s = (why : Trap) × (s.run.status ≡ Trapped why)

  -- the frame is still there and the run goes on, or it has trapped
  abbrev pub StateStarts : LoadedState Units → Type 0
  StateStarts s = (Starts s.run.stack × (causes.goes_on s.run.status ≡ true)) ⊎ HasTrapped s

  gives_over : (s : LoadedState Units) (under : List (Frame LoaderFrame)) (n : ℕ) → Starts under → StateStarts (gives s under n)
  gives_over s [] n k = absurd cc
  gives_over s (frames.Active a ∷ fs) n k = inl (k, refl)
  gives_over s (frames.Marked mark ∷ fs) n k = inl (k, refl)

  answered_over : (s : LoadedState Units) (under : List (Frame LoaderFrame)) → Starts under → (x : LoaderAnswer) → StateStarts (answered s under x)
  answered_over s under k (loading.Gives n loader) = gives_over (record s { loader = loader }) under n k
  answered_over s under k (loading.Traps why) = inr (why, refl)
  answered_over s under k (loading.Opens frame) = inl (or_right (calls_entry frame.after) (list_any is_startup under) k, refl)

  went_over : (s : LoadedState Units) (x : Next Units LoaderFrame) → NextStarts x → IfSome (went D s x) StateStarts
  went_over s (Goes us memory fs) k = inl (k, refl)
  went_over s (Asks e args fs) k = go (D.names e)
    where
      go : (o : Option HostName)
          → IfSome ((o >>= λ h. Some (stands s.run fs (Waits (record { host = h; args = args })))) >>= λ run. Some (with_run s run)) StateStarts
      go None = tt
      go (Some h) = inl (k, refl)
  went_over s (Loads which args under) k =
      looked StateStarts (D.answer which args s.run.memory s.loader) _ (λ x. answered_over s under k x)
  went_over s Ends k = absurd k
  went_over s (Traps why) k = inr (why, refl)

  abbrev ComesBy : LoadedState Units → Option (Next Units LoaderFrame) → Type 0
  ComesBy s None = StateStarts s
  ComesBy s (Some x) = NextStarts x

  abbrev ComesStarts : Comes Units → Type 0
  ComesStarts c = ComesBy c.state c.next

  comes_over : (s : LoadedState Units) (o : Option (Next Units LoaderFrame)) → IfSome o NextStarts → IfSome (comes_to s o) ComesStarts
  comes_over s None k = tt
  comes_over s (Some x) k = k

  call_next_over : (s : LoadedState Units) (fs : List (Frame LoaderFrame)) → Starts fs → (r : Option Ref) → IfSome (call_next D s fs r) ComesStarts
  call_next_over s fs k None = inl (k, refl)
  call_next_over s fs k (Some r) =
      comes_over s (call D.view s.run.units s.run.memory (λ values. fs) [] r) (call_over D.view s.run.units s.run.memory (λ values. fs) (λ vs. k) [] r)

  ended_over : (s : LoadedState Units) (fs : List (Frame LoaderFrame)) → Starts fs → (o : Option Trap) → StateStarts (ended_by s fs o)
  ended_over s fs k None = inl (k, refl)
  ended_over s fs k (Some why) = inr (why, refl)

  place_over : (s : LoadedState Units) (fs : List (Frame LoaderFrame)) → Starts fs → (o : Option (Performed Units)) → IfSome (o >>= place_next s fs) ComesStarts
  place_over s fs k None = tt
  place_over s fs k (Some p) = ended_over (with_run s (record s.run { units = p.units; memory = p.memory })) fs k p.trap

  work_over : (s : LoadedState Units) (fs : List (Frame LoaderFrame)) → Starts fs → (phase : Phase) (m : ℕ) → IfSome (work_next D s fs phase m) ComesStarts
  work_over s fs k Place m = place_over s fs k (D.placed m s.run.units s.run.memory)
  work_over s fs k Start m = looked ComesStarts (D.callee Start m) _ (call_next_over s fs k)
  work_over s fs k Relocate m = looked ComesStarts (D.callee Relocate m) _ (call_next_over s fs k)
  work_over s fs k Construct m = looked ComesStarts (D.callee Construct m) _ (call_next_over s fs k)

  task_over : (s : LoadedState Units) (fs : List (Frame LoaderFrame)) → Starts fs → (task : Task) → IfSome (task_next D s fs task) ComesStarts
  task_over s fs k task = looked ComesStarts (stage_in s.loader task.member) _ (λ stage. go (nat_lt stage (stage_of task.phase)))
    where
      go : (b : Bool) → IfSome (if b then work_next D (raised s task.member (stage_of task.phase)) fs task.phase task.member
          else comes_by_itself (goes_on s fs)) ComesStarts
      go true = work_over (raised s task.member (stage_of task.phase)) fs k task.phase task.member
      go false = inl (k, refl)

  from_over : (o : Option (Comes Units)) → IfSome o ComesStarts → IfSome (o >>= λ c. came_to D c.state c.next) StateStarts
  from_over None k = tt
  from_over (Some c) k = go c.next k
    where
      go : (o : Option (Next Units LoaderFrame)) → ComesBy c.state o → IfSome (came_to D c.state o) StateStarts
      go None k = k
      go (Some x) k = went_over c.state x k

  -- the frame on top has no task left, and calls the entry
  abbrev pub calling_frame : LoaderFrame
  calling_frame = record { tasks = []; after = CallEntry }

  abbrev Calling : List (Frame LoaderFrame) → Type 0
  Calling stack = (under : List (Frame LoaderFrame)) × (stack ≡ frames.Marked calling_frame ∷ under)

  frame_over : (s : LoadedState Units) (under : List (Frame LoaderFrame)) (after : After) (tasks : List Task)
      → (calls_entry after || list_any is_startup under) ≡ true
      → IfSome (frame_next D s under after tasks) ComesStarts ⊎ Calling (frames.Marked (record { tasks = tasks; after = after }) ∷ under)
  frame_over s under after (task ∷ tasks) k = inl (task_over s (frames.Marked (record { tasks = tasks; after = after }) ∷ under) k task)
  frame_over s under CallEntry [] k = inr (under, refl)
  frame_over s under (GiveHandle m) [] k = inl (gives_over s under _ k)
  frame_over s under (GiveAndPromote m) [] k = inl (gives_over (promoting D s m) under _ k)

  pub step_over : (s : LoadedState Units) → Starts s.run.stack → IfSome (loaded_step D s) StateStarts ⊎ Calling s.run.stack
  step_over s k = go s.run.stack k
    where
      go : (stack : List (Frame LoaderFrame)) → Starts stack
          → IfSome (loaded_next D s stack >>= λ c. came_to D c.state c.next) StateStarts ⊎ Calling stack
      go [] k = absurd cc
      go (frames.Active a ∷ under) k =
          let over = carried_over D.view s.run.units s.run.memory under k (move (D.view.declared a.unit) a) in
          inl (from_over (loaded_next D s (frames.Active a ∷ under)) (comes_over s (carried_out D.view s.run.units s.run.memory under (move (D.view.declared a.unit) a)) over))
      go (frames.Marked frame ∷ under) k = by (frame_over s under frame.after frame.tasks k)
        where
          by : IfSome (frame_next D s under frame.after frame.tasks) ComesStarts ⊎ Calling (frames.Marked frame ∷ under)
              → IfSome (loaded_next D s (frames.Marked frame ∷ under) >>= λ c. came_to D c.state c.next) StateStarts ⊎ Calling (frames.Marked frame ∷ under)
          by (inl over) = inl (from_over (frame_next D s under frame.after frame.tasks) over)
          by (inr calling) = inr calling
