-- Whether the next step of the run passes a limit of depth.
use Rattle.std.proofs.Common.{◌≡◌, ◌≢◌, ℕ, ◌<◌, List, [], ◌∷◌, length, Option, Some, None, Bool, true, false, refl, ap, sym, ◌∙◌, subst}
use Rattle.std.specs.Prelude.{IfSome, nat_lt}
use Rattle.std.specs.Option.{option_map}
use Rattle.spec_loading.specs.wasm_form.declared.runtime.Ref.{Ref}
use Rattle.spec_loading.specs.spec_binary.Options.{◌>>=◌}
use Rattle.spec_loading.proofs.of_spec_binary.Options.{each, either_way}
use Rattle.spec_loading.specs.spec_runtime.Memories.{MemoryInstance}
use Rattle.spec_loading.specs.spec_execution.Views.{View}
use Rattle.spec_loading.specs.spec_execution.Limits.{activations, passes_limit}
use Rattle.spec_loading.specs.spec_execution.Runs.{is_running, Frame, Active, Marked, Next, call}
use Rattle.spec_loading.specs.declared.task.Phase.{Phase}
use Rattle.spec_loading.specs.declared.task.Phase.TheVariants.{Place}
use Rattle.spec_loading.specs.declared.task.Task.{Task}
use Rattle.spec_loading.specs.declared.task.After.{After}
use Rattle.spec_loading.specs.declared.task.After.TheVariants.{CallEntry, GiveHandle, GiveAndPromote}
use Rattle.spec_loading.specs.Phases.{stage_of, LoaderFrame}
use Rattle.spec_loading.specs.Loading.{Loading, LoadedState, Comes, comes_by_itself, comes_to, goes_on, raised, stage_in, call_next, place_next, work_next, task_next, after_next, loaded_next, loaded_too_deep}
use Rattle.wasm_view.specs.Seen.{Seen}
use Rattle.wasm_machine.specs.Machines.{IsMarked, next_in, called_over, is_deep_next, is_deep_call}
use Rattle.wasm_machine.specs.Marks.{marked_stack, marked_next}
use Rattle.wasm_machine.specs.declared.machine.Standing.{Standing}
use Rattle.wasm_machine.specs.declared.machine.Standing.TheVariants as standing
use Rattle.wasm_machine.proofs.Marked.{marked_activations}
use Rattle.wasm_machine.proofs.Passing.{alike_passes, marked_passes}
use Rattle.dyl_frames.specs.declared.frames.Core.{Core}
use Rattle.dyl_frames.specs.Cores.{frame_at, IsLoaded, IsSound, IsState, TellsDeep, is_behind, top_frame, first_task}
use Rattle.dyl_frames.proofs.CodeSteps.{core_live, state_moving, code_next}
use Rattle.dyl_frames.proofs.Tops.{OnMark, rest_of}
use Rattle.dyl_frames.proofs.Tasks.{live_mark, raised_by, stack_is, task_comes, passed_over, worked, calls_work, quiet_depth}

-- ---- what a step comes to

module _ {Units : Type 0} (D : Loading Units) (s : LoadedState Units) where
  comes_passes : (b : LoadedState Units) (next : Option (Next Units LoaderFrame)) → loaded_next D s s.run.stack ≡ comes_to b next → loaded_too_deep D s ≡ passes_limit D.view next
  comes_passes b next e = ap (λ (o : Option (Comes Units)). passes_limit D.view (o >>= λ x. x.next)) e ∙ go next
    where
      go : (n : Option (Next Units LoaderFrame)) → passes_limit D.view (comes_to b n >>= λ x. x.next) ≡ passes_limit D.view n
      go None = refl
      go (Some n) = refl

  abbrev CallsNone : Comes Units → Type 0
  CallsNone x = x.next ≡ None

  -- a step that calls nothing passes none
  quiet_passes : (o : Option (Comes Units)) → loaded_next D s s.run.stack ≡ o → IfSome o CallsNone → loaded_too_deep D s ≡ false
  quiet_passes o e h = ap (λ (p : Option (Comes Units)). passes_limit D.view (p >>= λ x. x.next)) e ∙ go o h
    where
      go : (p : Option (Comes Units)) → IfSome p CallsNone → passes_limit D.view (p >>= λ x. x.next) ≡ false
      go None h = refl
      go (Some x) h = ap (passes_limit D.view) h

  -- as one that places a member does
  place_quiet : (b : LoadedState Units) (frames : List (Frame LoaderFrame)) (m : ℕ) → IfSome (work_next D b frames Place m) CallsNone
  place_quiet b frames m = each CallsNone (D.placed m b.run.units b.run.memory) (place_next b frames) (λ p. refl)

  task_quiet : (frames : List (Frame LoaderFrame)) (t : Task) → t.phase ≡ Place → IfSome (task_next D s frames t) CallsNone
  task_quiet frames t places =
      each CallsNone (stage_in s.loader t.member) _
      (λ stage.
      either_way CallsNone (nat_lt stage (stage_of t.phase)) (work_next D (raised s t.member (stage_of t.phase)) frames t.phase t.member) (comes_by_itself (goes_on s frames))
      (subst (λ (phase : Phase). IfSome (work_next D (raised s t.member (stage_of t.phase)) frames phase t.member) CallsNone) (sym places) (place_quiet (raised s t.member (stage_of t.phase)) frames t.member)) refl)

-- ---- code on top

code_on_top : (st : Standing) (rooms : List ℕ) (frames : List (Frame ℕ)) → st ≡ standing.Moving → frames ≢ [] → (IsMarked (record { stack = record { frames = frames; rooms = rooms }; standing = st }) → ⊥) → is_running frames ≡ true
code_on_top st rooms [] moving some code = absurd (some refl)
code_on_top st rooms (Active a ∷ frames) moving some code = refl
code_on_top st rooms (Marked tag ∷ frames) moving some code = absurd (code (moving, tt))

module _ {Units : Type 0} (D : Loading Units) (w : Seen Units) (loaded : IsLoaded D w.fixed) (c : Core) (sound : IsSound w.fixed w.units w.memory c) (moving : c.machine.standing ≡ standing.Moving) (b : Bool) where
  pub code_tells : (IsMarked c.machine → ⊥) → b ≡ is_deep_next w c.machine → TellsDeep D b c w
  code_tells code is s k =
      let at = state_moving D c w.units w.memory s k moving in
      let frames = c.machine.stack.frames in
      let h = frame_at c.frames.items in
      let runs = code_on_top c.machine.standing c.machine.stack.rooms frames moving (core_live w.fixed w.units w.memory c sound moving).some code in
      let own : passes_limit w.fixed (next_in w frames) ≡ passes_limit D.view (next_in (record w { fixed = D.view }) frames) = ap (λ (V : View Units). passes_limit V (next_in (record w { fixed = V }) frames)) (sym loaded.view) in
      is ∙ ap (λ (st : Standing). is_deep_next w (record { stack = c.machine.stack; standing = st })) moving ∙ own
      ∙ sym (marked_passes D.view h (next_in (record w { fixed = D.view }) frames))
      ∙ sym (comes_passes D s s (option_map (marked_next h) (next_in (record w { fixed = D.view }) frames)) (ap (loaded_next D s) at.1 ∙ code_next D s h w.units w.memory frames runs k.units k.space))

  -- a call over the mark on top, where the run calls it over frames of the same activations
  call_tells : (r : Ref) → b ≡ is_deep_call w r c.machine → (s t : LoadedState Units) (frames : List (Frame LoaderFrame)) → t.run.units ≡ w.units → t.run.memory ≡ w.memory → activations frames ≡ activations c.machine.stack.frames
      → loaded_next D s s.run.stack ≡ comes_to t (call D.view t.run.units t.run.memory (λ _. frames) [] r) → b ≡ loaded_too_deep D s
  call_tells r is s t frames units space same comes =
      let over : Option (Next Units LoaderFrame) = call D.view t.run.units t.run.memory (λ _. frames) [] r in
      let seen : passes_limit D.view over ≡ passes_limit D.view (call D.view w.units w.memory (λ _. frames) [] r) =
      ap (λ (x : Units). passes_limit D.view (call D.view x t.run.memory (λ _. frames) [] r)) units ∙ ap (λ (x : MemoryInstance). passes_limit D.view (call D.view w.units x (λ _. frames) [] r)) space in
      let own : passes_limit w.fixed (called_over w c.machine.stack.frames r) ≡ passes_limit D.view (call D.view w.units w.memory (λ _. c.machine.stack.frames) [] r) =
      ap (λ (V : View Units). passes_limit V (call V w.units w.memory (λ _. c.machine.stack.frames) [] r)) (sym loaded.view) in
      is ∙ ap (λ (st : Standing). is_deep_call w r (record { stack = c.machine.stack; standing = st })) moving ∙ own
      ∙ sym (alike_passes D.view w.units w.memory frames c.machine.stack.frames same r) ∙ sym seen ∙ sym (comes_passes D s t over comes)

-- ---- a frame of the loader on top

module _ {Units : Type 0} (D : Loading Units) (w : Seen Units) (loaded : IsLoaded D w.fixed) (c : Core) (sound : IsSound w.fixed w.units w.memory c) (marked : IsMarked c.machine) where
  m : OnMark c
  m = live_mark w.fixed w.units w.memory c sound marked

  -- frames under a mark, whatever it stands for
  abbrev marked_by : LoaderFrame → List (Frame LoaderFrame)
  marked_by f = Marked f ∷ marked_stack (frame_at c.frames.items) m.rest

  alike : activations (marked_stack (frame_at c.frames.items) m.rest) ≡ activations c.machine.stack.frames
  alike = marked_activations (frame_at c.frames.items) m.rest ∙ ap activations (sym m.frames)

  -- its next task
  module _ (t : Task) (first : first_task (top_frame c) ≡ Some t) where
    comes_on : (s : LoadedState Units) → IsState D c w.units w.memory s → loaded_next D s s.run.stack ≡ task_next D s (marked_by (rest_of (top_frame c))) t
    comes_on s k = task_comes D s c w.units w.memory k marked.0 m t first

    pub place_tells : t.phase ≡ Place → TellsDeep D false c w
    place_tells places s k = sym (quiet_passes D s (task_next D s (marked_by (rest_of (top_frame c))) t) (comes_on s k) (task_quiet D s (marked_by (rest_of (top_frame c))) t places))

    pub passed_tells : t.member < length c.stages → is_behind c t ≡ false → TellsDeep D false c w
    passed_tells lt late s k =
        let frames = marked_by (rest_of (top_frame c)) in
        sym (quiet_depth D s (goes_on s frames) (comes_on s k ∙ passed_over D s c k.loader frames t lt late))

    module _ (behind : is_behind c t ≡ true) (calls : t.phase ≢ Place) where
      comes_work : (s : LoadedState Units) → IsState D c w.units w.memory s → loaded_next D s s.run.stack ≡ (D.callee t.phase t.member >>= call_next D (raised_by s t) (marked_by (rest_of (top_frame c))))
      comes_work s k =
          let frames = marked_by (rest_of (top_frame c)) in
          comes_on s k ∙ worked D s c k.loader frames t behind ∙ calls_work D (raised_by s t) frames t.phase t.member calls

      pub nothing_tells : D.callee t.phase t.member ≡ Some None → TellsDeep D false c w
      nothing_tells callee s k =
          let frames = marked_by (rest_of (top_frame c)) in
          sym (quiet_depth D s (goes_on (raised_by s t) frames) (comes_work s k ∙ ap (λ (o : Option (Option Ref)). o >>= call_next D (raised_by s t) frames) callee))

      pub task_tells : (r : Ref) (b : Bool) → D.callee t.phase t.member ≡ Some (Some r) → b ≡ is_deep_call w r c.machine → TellsDeep D b c w
      task_tells r b callee is s k =
          let frames = marked_by (rest_of (top_frame c)) in
          call_tells D w loaded c sound marked.0 b r is s (raised_by s t) frames k.units k.space alike
          (comes_work s k ∙ ap (λ (o : Option (Option Ref)). o >>= call_next D (raised_by s t) frames) callee)

  -- what follows its last task
  module _ (last : (top_frame c).tasks ≡ []) where
    comes_after : (s : LoadedState Units) → IsState D c w.units w.memory s → loaded_next D s s.run.stack ≡ after_next D s (marked_stack (frame_at c.frames.items) m.rest) (top_frame c).after
    comes_after s k =
        let under = marked_stack (frame_at c.frames.items) m.rest in
        ap (loaded_next D s) (stack_is D s c w.units w.memory k marked.0 m) ∙ ap (λ (ts : List Task). loaded_next D s (Marked (record (top_frame c) { tasks = ts }) ∷ under)) last

    pub entry_tells : (r : Ref) (b : Bool) → (top_frame c).after ≡ CallEntry → D.entry ≡ Some r → b ≡ is_deep_call w r c.machine → TellsDeep D b c w
    entry_tells r b enters entry is s k =
        let under = marked_stack (frame_at c.frames.items) m.rest in
        call_tells D w loaded c sound marked.0 b r is s s under k.units k.space alike
        (comes_after s k ∙ ap (after_next D s under) enters ∙ ap (λ (o : Option Ref). o >>= λ x. call_next D s under (Some x)) entry)

    -- a handle is given
    pub handle_tells : (after : After) → (top_frame c).after ≡ after → after ≢ CallEntry → TellsDeep D false c w
    handle_tells after at other s k =
        let under = marked_stack (frame_at c.frames.items) m.rest in
        sym (quiet_passes D s (after_next D s under after) (comes_after s k ∙ ap (after_next D s under) at) (go under after other))
      where
        go : (under : List (Frame LoaderFrame)) (a : After) → a ≢ CallEntry → IfSome (after_next D s under a) (CallsNone D s)
        go under CallEntry other = absurd (other refl)
        go under (GiveHandle n) other = refl
        go under (GiveAndPromote n) other = refl
