-- What a function of the loader answers: a number, a trap, or a frame over the code that called it. A frame that is done gives its handle.
use Rattle.std.proofs.Common.{◌≡◌, ◌⊎◌, inl, inr, ℕ, zero, suc, ◌+◌, ◌-◌, ◌<◌, List, [], ◌∷◌, ◌++◌, Option, Some, None, refl, ap, sym, ◌∙◌, subst, true, false, length, length-append, take, drop, arith, All}
use Rattle.std.specs.Prelude.{slice_get, reverse}
use Rattle.spec_loading.specs.wasm_form.declared.runtime.Trap.{Trap}
use Rattle.spec_loading.specs.spec_runs.Systems.{Status, Trapped}
use Rattle.spec_loading.specs.spec_binary.Options.{◌>>=◌}
use Rattle.spec_loading.proofs.of_spec_binary.Lists.{slice_get-append-left, slice_get-append-last}
use Rattle.spec_loading.specs.spec_runtime.Hosts.{HostCall}
use Rattle.spec_loading.specs.spec_runtime.Memories.{MemoryInstance}
use Rattle.spec_loading.specs.spec_execution.Views.{View}
use Rattle.spec_loading.specs.spec_execution.Limits.{passes_limit}
use Rattle.spec_loading.specs.spec_linking.LinkedSets.{LinkedSet}
use Rattle.spec_loading.specs.LoaderAnswers.{promoted_with}
use Rattle.dyl_world.specs.Promoted.{PromotedMembers}
use Rattle.spec_loading.specs.spec_execution.Runs.{Frame, Active, Marked, is_running, stands}
use Rattle.wasm_view.specs.Seen.{Seen}
use Rattle.wasm_machine.specs.Stacks.{CallStack}
use Rattle.wasm_machine.specs.Machines.{MachineState, IsOver, IsMarked, Marks, Unmarks, Received, ended}
use Rattle.wasm_machine.specs.Marks.{marked_stack, AreMarksOver}
use Rattle.wasm_machine.specs.declared.machine.Standing.{Standing}
use Rattle.wasm_machine.specs.declared.machine.Standing.TheVariants as standing
use Rattle.wasm_machine.specs.declared.event.Event.TheVariants as event
use Rattle.spec_loading.specs.declared.task.Task.{Task}
use Rattle.spec_loading.specs.declared.task.After.{After}
use Rattle.spec_loading.specs.declared.task.After.TheVariants.{CallEntry, GiveHandle, GiveAndPromote}
use Rattle.spec_loading.specs.Phases.{LoaderFrame}
use Rattle.spec_loading.specs.Loading.{Loading, LoaderState, LoadedState, LoaderAnswer, Traps, Comes, comes_by_itself, with_run, goes_on, gives, promoting, answered, after_next, came_to, loaded_next, loaded_step, loaded_too_deep}
use Rattle.dyl_frames.specs.declared.frames.Pending.{Pending}
use Rattle.dyl_frames.specs.declared.frames.Core.{Core}
use Rattle.wasm_machine.specs.Steps.{TellsStatus}
use Rattle.dyl_frames.specs.Next.{answer_of, next_answer}
use Rattle.dyl_frames.specs.Cores.{frame_in, frame_at, stack_of, LiesOver, LiesUnder, IsHandle, GivesHandle, IsPending, IsStacked, IsLive, IsSound, loader_of, IsState, IsCalling, Steps, AnsweredFrom, gives_number, opens_member, top_frame, Drops}
use Rattle.dyl_frames.proofs.CodeSteps.{with_machine, state_moving}
use Rattle.dyl_frames.proofs.Telling.{stays_at}
use Rattle.dyl_frames.proofs.Tops.{OnMark, marks_alike, marks_kept}
use Rattle.dyl_frames.proofs.Answering.{received, live_after}
use Rattle.dyl_frames.proofs.Opening.{tasks_small}
use Rattle.dyl_frames.proofs.Tasks.{live_mark, trapped_core, quiet_depth, quiet_step}

-- ---- what a frame lies over whose handle is given

lies_over : (a : After) → GivesHandle a → (frames : List (Frame ℕ)) → is_running frames ≡ true → LiesOver a frames
lies_over CallEntry hands frames runs = absurd hands
lies_over (GiveHandle m) hands frames runs = runs
lies_over (GiveAndPromote m) hands frames runs = runs

over_code : (a : After) → GivesHandle a → (frames : List (Frame ℕ)) → LiesOver a frames → is_running frames ≡ true
over_code CallEntry hands frames lies = absurd hands
over_code (GiveHandle m) hands frames lies = lies
over_code (GiveAndPromote m) hands frames lies = lies

-- ---- where a function of the loader is waited for

pub loading_live : {Units : Type 0} (V : View Units) (us : Units) (memory : MemoryInstance) (c : Core) → IsSound V us memory c → c.machine.standing ≡ standing.Loading → IsStacked c.frames.items c.machine.stack.frames × (is_running c.machine.stack.frames ≡ true)
loading_live V us memory c h is = subst (λ (st : Standing). IsLive st c.frames.items c.machine.stack.frames) is h.live

-- a number that is given to code
given_moving : (frames : List (Frame ℕ)) (results : List ℕ) (n : MachineState) → is_running frames ≡ true → Received frames results n → n.standing ≡ standing.Moving
given_moving [] results n runs r = absurd cc
given_moving (Active a ∷ frames) results n runs r = r.standing_is
given_moving (Marked tag ∷ frames) results n runs r = absurd cc

-- the run goes on after the step
moved_by : {Units : Type 0} (D : Loading Units) (s t : LoadedState Units) (new : Core) (us : Units) (memory : MemoryInstance) → loaded_too_deep D s ≡ false → loaded_step D s ≡ Some t → IsState D new us memory t → new.machine.standing ≡ standing.Moving
    → Steps D event.Moved s new us memory
moved_by D s t new us memory light step k moving =
    (light, (t, step, subst (λ (x : Status HostCall Trap). TellsStatus D.names event.Moved x) (sym (state_moving D new us memory t k moving).0) tt, k))

module _ {Units : Type 0} (D : Loading Units) (c : Core) (s : LoadedState Units) (k : IsCalling D c s) (x : LoaderAnswer) (answer : next_answer D s ≡ Some x) where
  answer_is : D.answer k.which k.args s.run.memory s.loader ≡ Some x
  answer_is = sym (ap (λ (o : Option (Comes Units)). o >>= λ y. answer_of D y.state y.next) k.comes) ∙ answer

  answered_step : loaded_step D s ≡ Some (answered s (stack_of c) x)
  answered_step = ap (λ (o : Option (Comes Units)). o >>= λ y. came_to D y.state y.next) k.comes ∙ ap (λ (o : Option LoaderAnswer). o >>= λ y. Some (answered s (stack_of c) y)) answer_is

  answered_depth : loaded_too_deep D s ≡ false
  answered_depth = ap (λ (o : Option (Comes Units)). passes_limit D.view (o >>= λ y. y.next)) k.comes

module _ {Units : Type 0} (w : Seen Units) (c : Core) (h : IsSound w.fixed w.units w.memory c) (loading : c.machine.standing ≡ standing.Loading) where
  live : IsStacked c.frames.items c.machine.stack.frames × (is_running c.machine.stack.frames ≡ true)
  live = loading_live w.fixed w.units w.memory c h loading

  -- ---- a number

  module _ (n error : ℕ) (m : MachineState) (r : Received c.machine.stack.frames (n ∷ []) m) where
    abbrev given_core : Core
    given_core = record c { machine = m; error = error }

    pub gives_from : (D : Loading Units) → AnsweredFrom D event.Moved (gives_number c n error) c w given_core
    gives_from D s k answer =
        let call = k.call in
        let loader : LoaderState = record (loader_of c) { error = error } in
        moved_by D s (answered s (stack_of c) (gives_number c n error)) given_core w.units w.memory (answered_depth D c s call (gives_number c n error) answer) (answered_step D c s call (gives_number c n error) answer)
        (received D (record c { error = error }) m w.units w.memory (record s { loader = loader }) refl k.units (n ∷ []) s.run k.units k.space c.machine.stack.frames r)
        (given_moving c.machine.stack.frames (n ∷ []) m live.1 r)

    pub gives_core : IsOver w.fixed w.units w.memory m → IsSound w.fixed w.units w.memory given_core
    gives_core over = record { over = over; live = live_after c.frames.items c.machine.stack.frames (n ∷ []) m live.0.marks r; pending = h.pending }

  -- ---- a trap

  module _ (why : Trap) (m : MachineState) (is : m ≡ ended (standing.Trapped why)) where
    pub traps_from : (D : Loading Units) → AnsweredFrom D (event.Trapped why) (Traps why) c w (with_machine c m)
    traps_from D s k answer =
        let call = k.call in (
          answered_depth D c s call (Traps why) answer,
          (
            with_run s (stands s.run [] (Trapped why)),
            answered_step D c s call (Traps why) answer,
            refl,
            stays_at D s s (with_machine c m) w.units w.memory (with_run s (stands s.run [] (Trapped why))) (standing.Trapped why) k.loader k.units k.space (ap (λ (x : MachineState). x.standing) is) refl,
          ),
        )

    pub traps_core : IsSound w.fixed w.units w.memory (with_machine c m)
    traps_core = trapped_core w.fixed w.units w.memory c why m h is

  -- ---- a frame

  module _ (tasks : List Task) (after : After) (hands : GivesHandle after) (tag : ℕ) (m : MachineState) (on : Marks tag c.machine m) (new : Core) (p : Pending) (machine : new.machine ≡ m) (frames : new.frames.items ≡ c.frames.items ++ p ∷ [])
      (items : p.tasks.items ≡ tasks) (follows : p.after ≡ after) (stages : new.stages ≡ c.stages) (loader : loader_of new ≡ loader_of c) (is : tag ≡ length c.frames.items) where
    abbrev frame : LoaderFrame
    frame = record { tasks = reverse tasks; after = after }

    pub on_top : new.machine.stack.frames ≡ Marked tag ∷ c.machine.stack.frames
    on_top = ap (λ (x : MachineState). x.stack.frames) machine ∙ ap (λ (x : CallStack). x.frames) on.stack

    moving : new.machine.standing ≡ standing.Moving
    moving = ap (λ (x : MachineState). x.standing) machine ∙ on.goes_on

    last_frame : frame_at new.frames.items tag ≡ frame
    last_frame =
        ap (λ (xs : List Pending). frame_at xs tag) frames ∙ ap frame_in (slice_get-append-last c.frames.items p tag is) ∙ ap (λ (ts : List Task). record { tasks = reverse ts; after = p.after }) items
        ∙ ap (λ (a : _). record { tasks = reverse tasks; after = a }) follows

    others : (i : ℕ) → i < length c.frames.items → frame_at c.frames.items i ≡ frame_at new.frames.items i
    others i lt = ap frame_in (sym (slice_get-append-left c.frames.items (p ∷ []) i lt)) ∙ ap (λ (xs : List Pending). frame_at xs i) (sym frames)

    stack_is : stack_of new ≡ Marked frame ∷ stack_of c
    stack_is =
        ap (λ (fs : List (Frame ℕ)). marked_stack (frame_at new.frames.items) fs) on_top ∙ ap (λ (f : LoaderFrame). Marked f ∷ marked_stack (frame_at new.frames.items) c.machine.stack.frames) last_frame
        ∙ ap (λ (fs : List (Frame LoaderFrame)). Marked frame ∷ fs)
        (sym (marks_alike (frame_at c.frames.items) (frame_at new.frames.items) (LiesUnder c.frames.items) (length c.frames.items) c.machine.stack.frames live.0.marks others))

    pub opens_from : (D : Loading Units) → AnsweredFrom D event.Moved (opens_member (reverse tasks) after) c w new
    opens_from D s k answer =
        let call = k.call in
        let x = opens_member (reverse tasks) after in
        moved_by D s (goes_on s (Marked frame ∷ stack_of c)) new w.units w.memory (answered_depth D c s call x answer) (answered_step D c s call x answer)
        (stays_at D s s new w.units w.memory (goes_on s (Marked frame ∷ stack_of c)) standing.Moving (k.loader ∙ sym loader) k.units k.space moving (refl, sym stack_is))
        moving

    lies_here : LiesUnder new.frames.items tag c.machine.stack.frames
    lies_here = subst (λ (f : LoaderFrame). LiesOver f.after c.machine.stack.frames) (sym last_frame) (lies_over after hands c.machine.stack.frames live.1)

    marks_here : AreMarksOver (LiesUnder new.frames.items) (suc (length c.frames.items)) (Marked tag ∷ c.machine.stack.frames)
    marks_here =
        let lies : LiesUnder new.frames.items (length c.frames.items) c.machine.stack.frames = subst (λ (i : ℕ). LiesUnder new.frames.items i c.machine.stack.frames) is lies_here in
        let below : AreMarksOver (LiesUnder new.frames.items) (length c.frames.items) c.machine.stack.frames =
        marks_kept (LiesUnder c.frames.items) (LiesUnder new.frames.items) (length c.frames.items) c.machine.stack.frames live.0.marks (λ i lt fs l. subst (λ (f : LoaderFrame). LiesOver f.after fs) (others i lt) l) in
        (is, lies, below)

    count : suc (length c.frames.items) ≡ length new.frames.items
    count = let more : length new.frames.items ≡ length c.frames.items + 1 = ap length frames ∙ length-append c.frames.items (p ∷ []) in omega arith

    stacked : IsStacked new.frames.items (Marked tag ∷ c.machine.stack.frames)
    stacked = record { some = λ e. cc; marks = subst (λ (n : ℕ). AreMarksOver (LiesUnder new.frames.items) n (Marked tag ∷ c.machine.stack.frames)) count marks_here }

    appended : (xs : List Pending) (i : ℕ) (q : Pending) → slice_get (xs ++ p ∷ []) i ≡ Some q → (slice_get xs i ≡ Some q) ⊎ (p ≡ q)
    appended [] zero q e = inr cc
    appended [] (suc i) q e = absurd cc
    appended (x ∷ xs) zero q e = inl e
    appended (x ∷ xs) (suc i) q e = appended xs i q e

    module _ (over : IsOver w.fixed w.units w.memory m) (small : All (λ (t : Task). t.member < length c.stages) tasks) (handle : IsHandle (length c.stages) after) where
      latest : IsPending (length c.stages) p
      latest = record {
        tasks = subst (λ (ts : List Task). All (λ (t : Task). t.member < length c.stages) (reverse ts)) (sym items) (tasks_small (length c.stages) tasks small);
        handle = subst (λ (a : After). IsHandle (length c.stages) a) (sym follows) handle;
      }

      pending : (i : ℕ) (q : Pending) → slice_get new.frames.items i ≡ Some q → IsPending (length c.stages) q
      pending i q e = go (appended c.frames.items i q (sym (ap (λ (xs : List Pending). slice_get xs i) frames) ∙ e))
        where
          go : (slice_get c.frames.items i ≡ Some q) ⊎ (p ≡ q) → IsPending (length c.stages) q
          go (inl found) = h.pending i q found
          go (inr same) = subst (λ (x : Pending). IsPending (length c.stages) x) same latest

      pub opens_core : IsSound w.fixed w.units w.memory new
      opens_core = record {
        over = subst (λ (x : MachineState). IsOver w.fixed w.units w.memory x) (sym machine) over;
        live = subst (λ (st : Standing). IsLive st new.frames.items new.machine.stack.frames) (sym moving) (subst (λ (fs : List (Frame ℕ)). IsStacked new.frames.items fs) (sym on_top) stacked);
        pending = λ i q e. subst (λ (xs : List ℕ). IsPending (length xs) q) (sym stages) (pending i q e);
      }

-- ---- the frame on top is done

taken_get : (k : ℕ) (xs : List Pending) (i : ℕ) → i < k → slice_get (take k xs) i ≡ slice_get xs i
taken_get zero xs i lt = absurd (omega arith)
taken_get (suc k) [] i lt = refl
taken_get (suc k) (x ∷ xs) zero lt = refl
taken_get (suc k) (x ∷ xs) (suc i) lt = taken_get k xs i (omega arith)

taken_found : (k : ℕ) (xs : List Pending) (i : ℕ) (q : Pending) → slice_get (take k xs) i ≡ Some q → slice_get xs i ≡ Some q
taken_found zero xs i q e = absurd cc
taken_found (suc k) [] i q e = e
taken_found (suc k) (x ∷ xs) zero q e = e
taken_found (suc k) (x ∷ xs) (suc i) q e = taken_found k xs i q e

taken_count : (k : ℕ) (xs : List Pending) → length xs ≡ suc k → length (take k xs) ≡ k
taken_count zero xs e = refl
taken_count (suc k) [] e = absurd cc
taken_count (suc k) (x ∷ xs) e = ap suc (taken_count k xs (let less = e in omega arith))

frame_done : {Units : Type 0} (D : Loading Units) (s : LoadedState Units) (f : LoaderFrame) (under : List (Frame LoaderFrame)) (after : After) → f.tasks ≡ [] → f.after ≡ after → loaded_next D s (Marked f ∷ under) ≡ after_next D s under after
frame_done D s f under after tasks follows =
    ap (λ (ts : List Task). loaded_next D s (Marked (record f { tasks = ts }) ∷ under)) tasks ∙ ap (λ (a : After). after_next D s under a) follows

module _ {Units : Type 0} (w : Seen Units) (c : Core) (h : IsSound w.fixed w.units w.memory c) (marked : IsMarked c.machine) (member : ℕ) (after : After) (hands : GivesHandle after) (handle : (top_frame c).after ≡ after) where
  m : OnMark c
  m = live_mark w.fixed w.units w.memory c h marked

  last_is : m.number ≡ length c.frames.items - 1
  last_is = let count = m.count in omega arith

  runs : is_running m.rest ≡ true
  runs =
      let lies : LiesOver (top_frame c).after m.rest = subst (λ (i : ℕ). LiesUnder c.frames.items i m.rest) last_is m.under in
      over_code after hands m.rest (subst (λ (a : After). LiesOver a m.rest) handle lies)

  -- the member whose handle is given is there
  pub handle_inside : IsHandle (length c.stages) after
  handle_inside = subst (λ (a : After). IsHandle (length c.stages) a) handle (go (slice_get c.frames.items (length c.frames.items - 1)) refl)
    where
      go : (o : Option Pending) → slice_get c.frames.items (length c.frames.items - 1) ≡ o → IsHandle (length c.stages) (frame_in o).after
      go None e = tt
      go (Some p) e = (h.pending (length c.frames.items - 1) p e).handle

  module _ (u : MachineState) (off : Unmarks c.machine u) (n : MachineState) (r : Received u.stack.frames ((member + 1) ∷ []) n)
      (new : Core) (machine : new.machine ≡ n) (stages : new.stages ≡ c.stages) (frames : new.frames.items ≡ take (length c.frames.items - 1) c.frames.items) where
    here : Received m.rest ((member + 1) ∷ []) n
    here =
        let rest : u.stack.frames ≡ m.rest = ap (λ (x : CallStack). x.frames) off.stack ∙ ap (λ (fs : List (Frame ℕ)). drop 1 fs) m.frames in
        subst (λ (fs : List (Frame ℕ)). Received fs ((member + 1) ∷ []) n) rest r

    frames_are : new.frames.items ≡ take m.number c.frames.items
    frames_are = frames ∙ ap (λ (i : ℕ). take i c.frames.items) (sym last_is)

    kept_under : (i : ℕ) → i < m.number → frame_at c.frames.items i ≡ frame_at new.frames.items i
    kept_under i lt = ap frame_in (sym (taken_get m.number c.frames.items i lt)) ∙ ap (λ (xs : List Pending). frame_at xs i) (sym frames_are)

    left_count : m.number ≡ length new.frames.items
    left_count = sym (ap length frames_are ∙ taken_count m.number c.frames.items m.count)

    pub one_less : length c.frames.items ≡ suc (length new.frames.items)
    one_less = m.count ∙ ap suc left_count

    marks_new : AreMarksOver (LiesUnder new.frames.items) (length new.frames.items) m.rest
    marks_new = subst (λ (i : ℕ). AreMarksOver (LiesUnder new.frames.items) i m.rest) left_count
        (marks_kept (LiesUnder c.frames.items) (LiesUnder new.frames.items) m.number m.rest m.marks (λ i lt fs l. subst (λ (x : LoaderFrame). LiesOver x.after fs) (kept_under i lt) l))

    pub handed_core : IsOver w.fixed w.units w.memory n → IsSound w.fixed w.units w.memory new
    handed_core over = record {
      over = subst (λ (x : MachineState). IsOver w.fixed w.units w.memory x) (sym machine) over;
      live = subst (λ (x : MachineState). IsLive x.standing new.frames.items x.stack.frames) (sym machine) (live_after new.frames.items m.rest ((member + 1) ∷ []) n marks_new here);
      pending = λ i q e. subst (λ (xs : List ℕ). IsPending (length xs) q) (sym stages) (h.pending i q (taken_found m.number c.frames.items i q (sym (ap (λ (xs : List Pending). slice_get xs i) frames_are) ∙ e)));
    }

    -- what follows gives the handle, and leaves the run as it is, and what is kept as it is here
    module _ (D : Loading Units) (tasks : (top_frame c).tasks ≡ []) (s : LoadedState Units) (k : IsState D c w.units w.memory s)
        (loader : LoaderState) (done : (under : List (Frame LoaderFrame)) → after_next D s under after ≡ comes_by_itself (gives (record s { loader = loader }) under (member + 1))) (keeps : loader ≡ loader_of new) where
      abbrev under : List (Frame LoaderFrame)
      under = marked_stack (frame_at c.frames.items) m.rest

      abbrev given_state : List (Frame LoaderFrame) → LoadedState Units
      given_state fs = gives (record s { loader = loader }) fs (member + 1)

      comes : loaded_next D s s.run.stack ≡ comes_by_itself (given_state under)
      comes =
          ap (loaded_next D s)
          ((state_moving D c w.units w.memory s k marked.0).1 ∙ ap (λ (fs : List (Frame ℕ)). marked_stack (frame_at c.frames.items) fs) m.frames
          ∙ ap (λ (i : ℕ). Marked (frame_at c.frames.items i) ∷ under) last_is)
          ∙ frame_done D s (top_frame c) under after tasks handle
          ∙ done under

      same_under : under ≡ marked_stack (frame_at new.frames.items) m.rest
      same_under = marks_alike (frame_at c.frames.items) (frame_at new.frames.items) (LiesUnder c.frames.items) m.number m.rest m.marks kept_under

      state : IsState D (with_machine new n) w.units w.memory (given_state (marked_stack (frame_at new.frames.items) m.rest))
      state = received D new n w.units w.memory (record s { loader = loader }) keeps k.units ((member + 1) ∷ []) s.run k.units k.space m.rest here

      machine_is : with_machine new n ≡ new
      machine_is = ap (λ (x : MachineState). with_machine new x) (sym machine)

      pub handed_steps : Steps D event.Moved s new w.units w.memory
      handed_steps =
          moved_by D s (given_state under) new w.units w.memory (quiet_depth D s (given_state under) comes) (quiet_step D s (given_state under) comes)
          (subst (λ (fs : List (Frame LoaderFrame)). IsState D new w.units w.memory (given_state fs)) (sym same_under)
          (subst (λ (x : Core). IsState D x w.units w.memory (given_state (marked_stack (frame_at new.frames.items) m.rest))) machine_is state))
          (ap (λ (x : MachineState). x.standing) machine ∙ given_moving m.rest ((member + 1) ∷ []) n runs here)

-- ---- what is kept then

dropped_loader : (c new : Core) → Drops c new → loader_of new ≡ loader_of c
dropped_loader c new f =
    let by : List ℕ → ℕ → PromotedMembers → LoaderState = λ ss e ps. record { stages = ss; error = e; promoted = ps.list } in
    (λ i. by (f.stages i) (f.error i) (f.promoted i))

module _ {Units : Type 0} (D : Loading Units) (c : Core) (n : MachineState) (d : Core) (f : Drops (with_machine c n) d) (us : Units) (memory : MemoryInstance) (s : LoadedState Units) (k : IsState D c us memory s) where
  pub still_kept : s.loader ≡ loader_of d
  still_kept = k.loader ∙ sym (dropped_loader (with_machine c n) d f)

  -- the closure of a member is promoted
  module _ (L : LinkedSet) (member : ℕ) (promotes : D.promote ≡ promoted_with L.set) (new : PromotedMembers) (is : new.list ≡ promoted_with L.set member d.promoted.list) where
    pub promoted_kept : (promoting D s member).loader ≡ loader_of (record d { promoted = new })
    promoted_kept =
        ap (λ (l : LoaderState). record l { promoted = D.promote member l.promoted }) still_kept
        ∙ ap (λ (f : ℕ → List ℕ → List ℕ). record (loader_of d) { promoted = f member d.promoted.list }) promotes
        ∙ ap (λ (l : List ℕ). record (loader_of d) { promoted = l }) (sym is)
