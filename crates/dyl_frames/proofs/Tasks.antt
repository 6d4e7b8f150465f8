-- What a task on top comes to.
use Rattle.std.proofs.Common.{◌≡◌, ◌≢◌, ◌⊎◌, inl, inr, ℕ, suc, ◌-◌, ◌<◌, List, [], ◌∷◌, Option, Some, None, refl, ap, sym, ◌∙◌, subst, true, false, length, get_or, drop, arith, All}
use Rattle.std.specs.Prelude.{slice_get, slice_set, nat_lt, nat_eq, if◌then◌else◌, IfSome}
use Rattle.std.specs.Option.{option_map}
use Rattle.std.proofs.lemmas.Option.{slice_get-get_or}
use Rattle.std.proofs.lemmas.List.Elements.{All-head, All-tail}
use Rattle.spec_loading.specs.wasm_form.declared.runtime.Ref.{Ref}
use Rattle.spec_loading.specs.wasm_form.declared.runtime.Trap.{Trap}
use Rattle.spec_loading.specs.spec_binary.Options.{◌>>=◌}
use Rattle.spec_loading.specs.spec_runtime.Memories.{MemoryInstance}
use Rattle.spec_loading.specs.spec_binary.Indices.{nullary}
use Rattle.spec_loading.specs.spec_execution.Views.{View, type_of}
use Rattle.spec_loading.specs.spec_execution.Instances.{host_type}
use Rattle.spec_loading.specs.spec_execution.Limits.{passes_limit}
use Rattle.spec_loading.specs.spec_execution.Runs.{Frame, Marked, Next, Loads, call}
use Rattle.spec_loading.specs.spec_execution.Segments.{Performed}
use Rattle.wasm_view.specs.Seen.{Seen}
use Rattle.wasm_step.specs.Moves.{Changes}
use Rattle.wasm_machine.specs.Machines.{MachineState, IsOver, IsMarked, IsAsked, Told, Begins, ended}
use Rattle.wasm_machine.specs.Marks.{marked_stack, marked_next}
use Rattle.wasm_machine.specs.declared.machine.Standing.TheVariants as standing
use Rattle.wasm_machine.specs.declared.event.Event.{Event}
use Rattle.wasm_machine.specs.declared.event.Event.TheVariants as event
use Rattle.wasm_machine.proofs.Marked.{marked_call}
use Rattle.wasm_machine.proofs.Under.{call_over}
use Rattle.spec_loading.specs.declared.task.Phase.{Phase}
use Rattle.spec_loading.specs.declared.task.Phase.TheVariants.{Place, Start, Relocate, Construct}
use Rattle.spec_loading.specs.declared.task.Task.{Task}
use Rattle.spec_loading.specs.Phases.{LoaderFrame, stage_of}
use Rattle.spec_loading.specs.Loading.{Loading, LoaderState, LoadedState, Comes, comes_by_itself, comes_to, goes_on, ended_by, place_next, call_next, work_next, task_next, raised, loaded_next, loaded_step, with_run, came_to}
use Rattle.dyl_frames.specs.declared.frames.Pending.{Pending}
use Rattle.dyl_frames.specs.declared.frames.Core.{Core}
use Rattle.dyl_frames.specs.Cores.{frame_of, frame_in, frame_at, stack_of, LiesUnder, IsHandle, IsPending, IsLive, IsLoaded, IsSound, loader_of, IsState, Steps, StepsFrom, is_made, is_deep_event, is_below, is_behind, raised_stages, top_frame, first_of, first_task, TakesTask, Finishes}
use Rattle.dyl_frames.proofs.CodeSteps.{changes, with_machine, state_moving, core_live, told_core, deep_same, same_state, by_view}
use Rattle.dyl_frames.proofs.Telling.{stays_at, steps_told, deep_told}
use Rattle.dyl_frames.proofs.Tops.{OnMark, on_mark, rest_of, finished_stack, finished_live, marks_alike, changed_or_kept, length_set, taken_frame, finished_loader}
use Rattle.dyl_frames.proofs.Loads.{IsPlain, plain_load, nullary_plain}

-- ---- the core once the task is done

tail_holds : {A : Type 0} (P : A → Type 0) (xs : List A) → All P xs → All P (drop 1 xs)
tail_holds P [] h = h
tail_holds P (x ∷ xs) h = All-tail P x xs h

taken_pending : (members : ℕ) (p q : Pending) → TakesTask p q → IsPending members p → IsPending members q
taken_pending members p q t h =
    let same = taken_frame p q t in
    record {
      tasks = subst (λ (f : LoaderFrame). All (λ (t : Task). t.member < members) f.tasks) (sym same) (tail_holds (λ (t : Task). t.member < members) (frame_of p).tasks h.tasks);
      handle = subst (λ (f : LoaderFrame). IsHandle members f.after) (sym same) h.handle;
    }

module _ {Units : Type 0} (V : View Units) (us : Units) (memory : MemoryInstance) (stages : List ℕ) (k : ℕ) (c new : Core) (f : Finishes stages c new) (count : length c.frames.items ≡ suc k) (h : IsSound V us memory c) (members : length stages ≡ length c.stages) where
  same_members : length new.stages ≡ length c.stages
  same_members = ap length f.stages_are ∙ members

  finished_pending : (i : ℕ) (p : Pending) → slice_get new.frames.items i ≡ Some p → IsPending (length c.stages) p
  finished_pending i p e = go (changed_or_kept c.frames.items (length c.frames.items - 1) f.frames.1 i p (sym (ap (λ (xs : List Pending). slice_get xs i) f.frames.3) ∙ e))
    where
      go : ((i ≡ length c.frames.items - 1) × (p ≡ f.frames.1)) ⊎ (slice_get c.frames.items i ≡ Some p) → IsPending (length c.stages) p
      go (inl k) =
          subst (λ (x : Pending). IsPending (length c.stages) x) (sym k.1)
          (taken_pending (length c.stages) f.frames.0 f.frames.1 f.frames.4 (h.pending i f.frames.0 (ap (λ (n : ℕ). slice_get c.frames.items n) k.0 ∙ f.frames.2)))
      go (inr k) = h.pending i p k

  pub finished_core : IsSound V us memory new
  finished_core = record {
    over = subst (λ (m : MachineState). IsOver V us memory m) (sym f.machine) h.over;
    live = finished_live stages c new f k count new.machine.standing new.machine.stack.frames (subst (λ (m : MachineState). IsLive m.standing c.frames.items m.stack.frames) (sym f.machine) h.live);
    pending = λ i p e. subst (λ (n : ℕ). IsPending n p) (sym same_members) (finished_pending i p e);
  }

pub raised_count : (c : Core) (t : Task) → length (raised_stages c t) ≡ length c.stages
raised_count c t = length_set c.stages t.member (stage_of t.phase)

-- ---- the run's step

-- the state with the member of a task at the stage of its phase
abbrev pub raised_by : {Units : Type 0} → LoadedState Units → Task → LoadedState Units
raised_by s t = raised s t.member (stage_of t.phase)

-- what the loader keeps then
raised_loader : {Units : Type 0} (s : LoadedState Units) (c : Core) (t : Task) → s.loader ≡ loader_of c → (raised_by s t).loader ≡ record (loader_of c) { stages = raised_stages c t }
raised_loader s c t same = ap (λ (l : LoaderState). record l { stages = slice_set l.stages t.member (stage_of t.phase) }) same

test_holds : {X : Type 0} (o : Option ℕ) (n : ℕ) (a b : Option X) → is_below o n ≡ true → (o >>= λ stage. if nat_lt stage n then a else b) ≡ a
test_holds None n a b e = absurd cc
test_holds (Some stage) n a b e = rw e refl

test_fails : {X : Type 0} (o : Option ℕ) (n : ℕ) (a b : Option X) (stage : ℕ) → o ≡ Some stage → is_below o n ≡ false → (o >>= λ x. if nat_lt x n then a else b) ≡ b
test_fails None n a b stage is e = absurd cc
test_fails (Some x) n a b stage is e = rw e refl

module _ {Units : Type 0} (D : Loading Units) (s : LoadedState Units) where
  task_on_top : (f : LoaderFrame) (under : List (Frame LoaderFrame)) (t : Task) → first_task f ≡ Some t → loaded_next D s (Marked f ∷ under) ≡ task_next D s (Marked (rest_of f) ∷ under) t
  task_on_top f under t first = go f.tasks first
    where
      go : (ts : List Task) → first_of ts ≡ Some t → loaded_next D s (Marked (record f { tasks = ts }) ∷ under) ≡ task_next D s (Marked (rest_of (record f { tasks = ts })) ∷ under) t
      go [] e = absurd cc
      go (x ∷ xs) e = let same : x ≡ t = cc in ap (task_next D s (Marked (record f { tasks = xs }) ∷ under)) same

  module _ (c : Core) (us : Units) (memory : MemoryInstance) (k : IsState D c us memory s) (moving : c.machine.standing ≡ standing.Moving) (m : OnMark c) where
    abbrev under : List (Frame LoaderFrame)
    under = marked_stack (frame_at c.frames.items) m.rest

    top_is : frame_at c.frames.items m.number ≡ top_frame c
    top_is = let last : m.number ≡ length c.frames.items - 1 = (let e = m.count in omega arith) in ap (frame_at c.frames.items) last

    pub stack_is : s.run.stack ≡ Marked (top_frame c) ∷ under
    stack_is =
        (state_moving D c us memory s k moving).1 ∙ ap (λ (fs : List (Frame ℕ)). marked_stack (frame_at c.frames.items) fs) m.frames
        ∙ ap (λ (f : LoaderFrame). Marked f ∷ under) top_is

    pub task_comes : (t : Task) → first_task (top_frame c) ≡ Some t → loaded_next D s s.run.stack ≡ task_next D s (Marked (rest_of (top_frame c)) ∷ under) t
    task_comes t first = ap (loaded_next D s) stack_is ∙ task_on_top (top_frame c) under t first

  -- the stage test
  module _ (c : Core) (loader : s.loader ≡ loader_of c) (frames : List (Frame LoaderFrame)) (t : Task) where
    pub passed_over : t.member < length c.stages → is_behind c t ≡ false → task_next D s frames t ≡ comes_by_itself (goes_on s frames)
    passed_over lt e =
        let found = slice_get-get_or c.stages t.member 0 lt in
        let at : slice_get s.loader.stages t.member ≡ Some (get_or c.stages t.member 0) = ap (λ (l : LoaderState). slice_get l.stages t.member) loader ∙ found in
        let below : is_below (slice_get s.loader.stages t.member) (stage_of t.phase) ≡ false = ap (λ (l : LoaderState). is_below (slice_get l.stages t.member) (stage_of t.phase)) loader ∙ e in
        test_fails (slice_get s.loader.stages t.member) (stage_of t.phase) _ _ (get_or c.stages t.member 0) at below

    pub worked : is_behind c t ≡ true → task_next D s frames t ≡ work_next D (raised_by s t) frames t.phase t.member
    worked e =
        let below : is_below (slice_get s.loader.stages t.member) (stage_of t.phase) ≡ true = ap (λ (l : LoaderState). is_below (slice_get l.stages t.member) (stage_of t.phase)) loader ∙ e in
        test_holds (slice_get s.loader.stages t.member) (stage_of t.phase) _ _ below

-- a step that calls nothing
module _ {Units : Type 0} (D : Loading Units) (s b : LoadedState Units) (comes : loaded_next D s s.run.stack ≡ comes_by_itself b) where
  pub quiet_depth : passes_limit D.view (loaded_next D s s.run.stack >>= λ x. x.next) ≡ false
  quiet_depth = ap (λ (o : Option (Comes Units)). passes_limit D.view (o >>= λ x. x.next)) comes

  pub quiet_step : loaded_step D s ≡ Some b
  quiet_step = ap (λ (o : Option (Comes Units)). o >>= λ x. came_to D x.state x.next) comes

pub quiet_steps : {Units : Type 0} (D : Loading Units) (s b : LoadedState Units) (new : Core) (us : Units) (memory : MemoryInstance) → loaded_next D s s.run.stack ≡ comes_by_itself (goes_on b (stack_of new))
    → b.loader ≡ loader_of new → b.run.units ≡ us → b.run.memory ≡ memory → new.machine.standing ≡ standing.Moving → Steps D event.Moved s new us memory
quiet_steps D s b new us memory comes loader units space moving = (
  quiet_depth D s (goes_on b (stack_of new)) comes,
  (
    goes_on b (stack_of new),
    quiet_step D s (goes_on b (stack_of new)) comes,
    tt,
    stays_at D s b new us memory (goes_on b (stack_of new)) standing.Moving loader units space moving (refl, refl),
  ),
)

-- ---- each kind of task

pub calls_work : {Units : Type 0} (D : Loading Units) (s : LoadedState Units) (frames : List (Frame LoaderFrame)) (phase : Phase) (m : ℕ) → phase ≢ Place → work_next D s frames phase m ≡ (D.callee phase m >>= call_next D s frames)
calls_work D s frames Place m calls = absurd (calls refl)
calls_work D s frames Start m calls = refl
calls_work D s frames Relocate m calls = refl
calls_work D s frames Construct m calls = refl

module _ {Units : Type 0} (D : Loading Units) (s : LoadedState Units) (c new : Core) (us us' : Units) (memory memory' : MemoryInstance) (k : IsState D c us memory s) (moving : c.machine.standing ≡ standing.Moving) (m : OnMark c) (t : Task) (first : first_task (top_frame c) ≡ Some t) (stages : List ℕ) (f : Finishes stages c new) where
  -- the frames once the task is done
  abbrev pub after_task : List (Frame LoaderFrame)
  after_task = Marked (rest_of (top_frame c)) ∷ marked_stack (frame_at c.frames.items) m.rest

  pub new_stack : marked_stack (frame_at new.frames.items) (Marked m.number ∷ m.rest) ≡ after_task
  new_stack = finished_stack stages c new f m.number m.count (LiesUnder c.frames.items) m.rest m.marks

  still_stack : stack_of new ≡ after_task
  still_stack =
      ap (λ (x : MachineState). marked_stack (frame_at new.frames.items) x.stack.frames) f.machine ∙ ap (λ (fs : List (Frame ℕ)). marked_stack (frame_at new.frames.items) fs) m.frames ∙ new_stack

  pub comes_on : loaded_next D s s.run.stack ≡ task_next D s after_task t
  comes_on = task_comes D s c us memory k moving m t first

  still_moving : new.machine.standing ≡ standing.Moving
  still_moving = ap (λ (x : MachineState). x.standing) f.machine ∙ moving

  quiet_task : (b : LoadedState Units) → task_next D s after_task t ≡ comes_by_itself (goes_on b after_task) → b.loader ≡ loader_of new → b.run.units ≡ us' → b.run.memory ≡ memory' → Steps D event.Moved s new us' memory'
  quiet_task b on loader units space =
      quiet_steps D s b new us' memory' (comes_on ∙ on ∙ ap (λ (fs : List (Frame LoaderFrame)). comes_by_itself (goes_on b fs)) (sym still_stack)) loader units space still_moving

  loader_raised : stages ≡ raised_stages c t → (raised_by s t).loader ≡ loader_of new
  loader_raised at = raised_loader s c t k.loader ∙ ap (λ (xs : List ℕ). record (loader_of c) { stages = xs }) (sym at) ∙ sym (finished_loader stages c new f)

  module _ (same : us ≡ us') (kept : memory ≡ memory') where
    pub pass_steps : t.member < length c.stages → is_behind c t ≡ false → stages ≡ c.stages → Steps D event.Moved s new us' memory'
    pass_steps lt late still = quiet_task s (passed_over D s c k.loader after_task t lt late)
        (k.loader ∙ ap (λ (xs : List ℕ). record (loader_of c) { stages = xs }) (sym still) ∙ sym (finished_loader stages c new f)) (k.units ∙ same) (k.space ∙ kept)

    pub nothing_steps : is_behind c t ≡ true → stages ≡ raised_stages c t → t.phase ≢ Place → D.callee t.phase t.member ≡ Some None → Steps D event.Moved s new us' memory'
    nothing_steps behind at calls none =
        quiet_task (raised_by s t) (worked D s c k.loader after_task t behind ∙ calls_work D (raised_by s t) after_task t.phase t.member calls ∙ ap (λ (o : Option (Option Ref)). o >>= call_next D (raised_by s t) after_task) none) (loader_raised at)
        (k.units ∙ same) (k.space ∙ kept)

  -- ---- placing

  module _ (behind : is_behind c t ≡ true) (at : stages ≡ raised_stages c t) (places : t.phase ≡ Place) where
    abbrev placed_so : Option Trap → Performed Units
    placed_so trap = record { units = us'; memory = memory'; trap = trap }

    -- what placing has changed
    abbrev with_placed : LoadedState Units
    with_placed = with_run (raised_by s t) (record (raised_by s t).run { units = us'; memory = memory' })

    place_comes : (trap : Option Trap) → D.placed t.member us memory ≡ Some (placed_so trap) → loaded_next D s s.run.stack ≡ comes_by_itself (ended_by with_placed after_task trap)
    place_comes trap done =
        comes_on ∙ worked D s c k.loader after_task t behind ∙ ap (λ (phase : Phase). work_next D (raised_by s t) after_task phase t.member) places
        ∙ ap (λ (x : Units). D.placed t.member x s.run.memory >>= place_next (raised_by s t) after_task) k.units
        ∙ ap (λ (x : MemoryInstance). D.placed t.member us x >>= place_next (raised_by s t) after_task) k.space
        ∙ ap (λ (o : Option (Performed Units)). o >>= place_next (raised_by s t) after_task) done

    pub placed_steps : D.placed t.member us memory ≡ Some (placed_so None) → Steps D event.Moved s new us' memory'
    placed_steps done =
        quiet_steps D s with_placed new us' memory' (place_comes None done ∙ ap (λ (fs : List (Frame LoaderFrame)). comes_by_itself (goes_on with_placed fs)) (sym still_stack)) (loader_raised at) refl refl still_moving

    pub trap_steps : (why : Trap) (n : MachineState) → n.standing ≡ standing.Trapped why → D.placed t.member us memory ≡ Some (placed_so (Some why)) → Steps D (event.Trapped why) s (record new { machine = n }) us' memory'
    trap_steps why n ends done = (
      quiet_depth D s (ended_by with_placed after_task (Some why)) (place_comes (Some why) done),
      (
        ended_by with_placed after_task (Some why),
        quiet_step D s (ended_by with_placed after_task (Some why)) (place_comes (Some why) done),
        refl,
        stays_at D s s (record new { machine = n }) us' memory' (ended_by with_placed after_task (Some why)) (standing.Trapped why) (loader_raised at) refl refl ends refl,
      ),
    )

-- ---- a call

nat_eq-refl : (n : ℕ) → nat_eq n n ≡ true
nat_eq-refl n = grind arith

nat_eq-below : (i n : ℕ) → i < n → nat_eq i n ≡ false
nat_eq-below i n lt = grind arith

-- the frames where one is another
abbrev with_frame : (ℕ → LoaderFrame) → ℕ → LoaderFrame → ℕ → LoaderFrame
with_frame h k f tag = if nat_eq tag k then f else h tag

module _ {Units : Type 0} (D : Loading Units) (s : LoadedState Units) (c : Core) (n : MachineState) (us : Units) (memory : MemoryInstance) (k : IsState D c us memory s) (moving : c.machine.standing ≡ standing.Moving) (m : OnMark c) (t : Task) (first : first_task (top_frame c) ≡ Some t) (behind : is_behind c t ≡ true) (calls : t.phase ≢ Place) (r : Ref) (callee : D.callee t.phase t.member ≡ Some (Some r)) (e : Event) (told : Told D.view e (call D.view us memory (λ _. c.machine.stack.frames) [] r) c.machine n (changes us us memory memory)) where
  abbrev next_here : Option (Next Units ℕ)
  next_here = call D.view s.run.units s.run.memory (λ _. Marked m.number ∷ m.rest) [] r

  told_here : Told D.view e next_here c.machine n (changes s.run.units us s.run.memory memory)
  told_here =
      subst (λ (fs : List (Frame ℕ)). Told D.view e (call D.view s.run.units s.run.memory (λ _. fs) [] r) c.machine n (changes s.run.units us s.run.memory memory)) m.frames
      (subst (λ (x : Units). Told D.view e (call D.view x s.run.memory (λ _. c.machine.stack.frames) [] r) c.machine n (changes x us s.run.memory memory)) (sym k.units)
      (subst (λ (x : MemoryInstance). Told D.view e (call D.view us x (λ _. c.machine.stack.frames) [] r) c.machine n (changes us us x memory)) (sym k.space) told))

  abbrev frames_then : List (Frame LoaderFrame)
  frames_then = Marked (rest_of (top_frame c)) ∷ marked_stack (frame_at c.frames.items) m.rest

  comes_here : (h : ℕ → LoaderFrame) → marked_stack h (Marked m.number ∷ m.rest) ≡ frames_then → loaded_next D s s.run.stack ≡ comes_to (raised_by s t) (option_map (marked_next h) next_here)
  comes_here h stack =
      task_comes D s c us memory k moving m t first ∙ worked D s c k.loader frames_then t behind ∙ calls_work D (raised_by s t) frames_then t.phase t.member calls
      ∙ ap (λ (o : Option (Option Ref)). o >>= call_next D (raised_by s t) frames_then) callee
      ∙ ap (λ (fs : List (Frame LoaderFrame)). comes_to (raised_by s t) (call D.view s.run.units s.run.memory (λ _. fs) [] r)) (sym stack)
      ∙ ap (comes_to (raised_by s t)) (marked_call D.view s.run.units s.run.memory h (λ _. Marked m.number ∷ m.rest) [] r)

  pub call_steps : (hosts : (entry : ℕ) → D.view.host entry ≡ host_type (D.names entry)) (over : IsOver D.view us memory n) (new : Core) (f : Finishes (raised_stages c t) (with_machine c n) new) → is_made e ≡ true → Steps D e s new us memory
  call_steps hosts over new f is =
      steps_told D s (raised_by s t) new us memory (raised_loader s c t k.loader ∙ sym (finished_loader (raised_stages c t) (with_machine c n) new f)) hosts e next_here c.machine is
      (comes_here (frame_at new.frames.items) (finished_stack (raised_stages c t) (with_machine c n) new f m.number m.count (LiesUnder c.frames.items) m.rest m.marks))
      (subst (λ (x : MachineState). Told D.view e next_here c.machine x (changes s.run.units us s.run.memory memory)) (sym f.machine) told_here)
      (subst (λ (x : MachineState). IsAsked D.view x.standing) (sym f.machine) over.asked)

  abbrev frames_over : ℕ → LoaderFrame
  frames_over = with_frame (frame_at c.frames.items) m.number (rest_of (top_frame c))

  stack_over : marked_stack frames_over (Marked m.number ∷ m.rest) ≡ frames_then
  stack_over =
      let here : frames_over m.number ≡ rest_of (top_frame c) = rw (nat_eq-refl m.number) refl in
      let below = marks_alike frames_over (frame_at c.frames.items) (LiesUnder c.frames.items) m.number m.rest m.marks (λ i lt. rw (nat_eq-below i m.number lt) refl) in
      rw (here, below) refl

  pub unmade_steps : is_deep_event e ≡ true → Steps D e s (with_machine c n) us memory
  unmade_steps is = go e is told_here told
    where
      go : (x : Event) → is_deep_event x ≡ true → Told D.view x next_here c.machine n (changes s.run.units us s.run.memory memory) → Told D.view x (call D.view us memory (λ _. c.machine.stack.frames) [] r) c.machine n (changes us us memory memory)
          → Steps D x s (with_machine c n) us memory
      go event.Deep is t here =
          let same = deep_same D.view us us memory memory (call D.view us memory (λ _. c.machine.stack.frames) [] r) c.machine n here in
          deep_told D s (raised_by s _) (with_machine c n) us memory next_here c.machine frames_over (comes_here frames_over stack_over) t (ap (λ (x : MachineState). x.standing) same.0 ∙ moving)
          (same_state D c n us us memory memory same.0 same.1 s k)
      go x is t here = absurd cc

-- a mark on top of the core
pub live_mark : {Units : Type 0} (V : View Units) (us : Units) (memory : MemoryInstance) (c : Core) → IsSound V us memory c → IsMarked c.machine → OnMark c
live_mark V us memory c h marked = on_mark c marked (core_live V us memory c h marked.0)

-- the members of its tasks are there
first_holds : (P : Task → Type 0) (ts : List Task) (t : Task) → All P ts → first_of ts ≡ Some t → P t
first_holds P [] t h e = absurd cc
first_holds P (x ∷ xs) t h e = let same : x ≡ t = cc in subst P same (All-head P x xs h)

module _ {Units : Type 0} (V : View Units) (us : Units) (memory : MemoryInstance) (c : Core) (h : IsSound V us memory c) (marked : IsMarked c.machine) where
  pub frames_there : c.frames.items ≢ []
  frames_there none = let count = (live_mark V us memory c h marked).count in let clash = sym (ap length none) ∙ count in cc

  pub task_inside : (t : Task) → first_task (top_frame c) ≡ Some t → t.member < length c.stages
  task_inside t first = go (slice_get c.frames.items (length c.frames.items - 1)) refl first
    where
      go : (o : Option Pending) → slice_get c.frames.items (length c.frames.items - 1) ≡ o → first_task (frame_in o) ≡ Some t → t.member < length c.stages
      go None e f = absurd cc
      go (Some p) e f = first_holds (λ (x : Task). x.member < length c.stages) (frame_of p).tasks t (h.pending (length c.frames.items - 1) p e).tasks f

  pub tasks_inside : (o : Option Task) → o ≡ first_task (top_frame c) → IfSome o (λ t. t.member < length c.stages)
  tasks_inside None e = tt
  tasks_inside (Some t) e = task_inside t (sym e)

-- ---- as the machine tells it over its own view

abbrev pub CallTold : {Units : Type 0} → View Units → Units → MemoryInstance → Core → MachineState → Ref → Event → Type 0
CallTold V us memory c n r e = Told V e (call V us memory (λ _. c.machine.stack.frames) [] r) c.machine n (changes us us memory memory)

pub called_core : {Units : Type 0} (w : Seen Units) (c : Core) (n : MachineState) (h : IsSound w.fixed w.units w.memory c) (moving : c.machine.standing ≡ standing.Moving) (r : Ref) (e : Event) → type_of w.fixed r ≡ Some nullary
    → Begins w e r c.machine n → IsOver w.fixed w.units w.memory n → IsSound w.fixed w.units w.memory (with_machine c n)
called_core w c n h moving r e plain told over =
    told_core w.fixed c n w.units w.units w.memory w.memory h moving e (call w.fixed w.units w.memory (λ _. c.machine.stack.frames) [] r) told.1
    (call_over (LiesUnder c.frames.items) w.fixed w.units w.memory (length c.frames.items) (λ _. c.machine.stack.frames) [] (λ vs. core_live w.fixed w.units w.memory c h moving) r)
    (plain_load (call w.fixed w.units w.memory (λ _. c.machine.stack.frames) [] r) (nullary_plain w.fixed w.units w.memory (λ _. c.machine.stack.frames) r plain)) over

-- a call that calls no function of the loader tells none
plain_made : {Units : Type 0} (V : View Units) (next : Option (Next Units ℕ)) (old n : MachineState) (c : Changes Units) (e : Event) → IfSome next IsPlain → Told V e next old n c → is_deep_event e ≡ false → is_made e ≡ true
plain_made V next old n c event.Moved plain t b = refl
plain_made V next old n c (event.Waits a) plain t b = refl
plain_made V (Some (Loads called args frames)) old n c (event.Loader which first second) plain t b = absurd plain
plain_made V next old n c event.Returned plain t b = refl
plain_made V next old n c (event.Trapped why) plain t b = refl
plain_made V next old n c event.Deep plain t b = absurd cc
plain_made V next old n c e plain t b = absurd t

module _ {Units : Type 0} (D : Loading Units) (w : Seen Units) (loaded : IsLoaded D w.fixed) (c : Core) (n : MachineState) (h : IsSound w.fixed w.units w.memory c) (marked : IsMarked c.machine) (t : Task) (first : first_task (top_frame c) ≡ Some t) (behind : is_behind c t ≡ true) (calls : t.phase ≢ Place) (r : Ref) (callee : D.callee t.phase t.member ≡ Some (Some r)) (e : Event) (told : Begins w e r c.machine n) where
  told_by : CallTold D.view w.units w.memory c n r e
  told_by = by_view D w.fixed loaded (λ (W : View Units). CallTold W w.units w.memory c n r e) told.1

  pub unmade_call : is_deep_event e ≡ true → StepsFrom D e c w (with_machine c n) w
  unmade_call begun s k = unmade_steps D s c n w.units w.memory k marked.0 (live_mark w.fixed w.units w.memory c h marked) t first behind calls r callee e told_by begun

  pub made_call : IsOver w.fixed w.units w.memory n → (new : Core) → Finishes (raised_stages c t) (with_machine c n) new → is_deep_event e ≡ false → type_of w.fixed r ≡ Some nullary → StepsFrom D e c w new w
  made_call over new f begun plain s k =
      call_steps D s c n w.units w.memory k marked.0 (live_mark w.fixed w.units w.memory c h marked) t first behind calls r callee e told_by loaded.hosts
      (by_view D w.fixed loaded (λ (W : View Units). IsOver W w.units w.memory n) over) new f
      (plain_made w.fixed (call w.fixed w.units w.memory (λ _. c.machine.stack.frames) [] r) c.machine n (changes w.units w.units w.memory w.memory) e (nullary_plain w.fixed w.units w.memory (λ _. c.machine.stack.frames) r plain) told.1 begun)

pub trapped_core : {Units : Type 0} (V : View Units) (us : Units) (memory : MemoryInstance) (c : Core) (why : Trap) (n : MachineState) → IsSound V us memory c → n ≡ ended (standing.Trapped why) → IsSound V us memory (with_machine c n)
trapped_core V us memory c why n h is = subst (λ (x : MachineState). IsSound V us memory (with_machine c x)) (sym is) (record {
  over = record { view = h.over.view; units = h.over.units; memory = h.over.memory; stack = tt; locals = tt; rooms = refl; asked = tt };
  live = tt;
  pending = h.pending;
})
