-- The entry is called over nothing, once the last task of the first frame is done.
use Rattle.std.proofs.Common.{◌≡◌, ℕ, ◌-◌, List, [], ◌∷◌, Option, Some, None, refl, ap, sym, ◌∙◌, subst, true, false, length, drop, arith}
use Rattle.std.specs.Prelude.{slice_get, IfSome, reverse}
use Rattle.std.specs.Option.{option_map}
use Rattle.spec_loading.specs.wasm_form.declared.runtime.LoaderCall.{LoaderCall}
use Rattle.spec_loading.specs.wasm_form.declared.runtime.Ref.{Ref}
use Rattle.spec_loading.specs.wasm_form.declared.runtime.Ref.TheVariants.{Own, Loader, Host, Stub}
use Rattle.spec_loading.specs.wasm_form.declared.runtime.Value.{Value}
use Rattle.spec_loading.specs.spec_binary.Options.{◌>>=◌}
use Rattle.spec_loading.proofs.of_spec_binary.Options.{each}
use Rattle.spec_loading.specs.spec_execution.Values.{take_values}
use Rattle.spec_loading.specs.spec_runtime.Memories.{MemoryInstance}
use Rattle.spec_loading.specs.spec_execution.Views.{View}
use Rattle.spec_loading.specs.spec_execution.Runs.{Frame, Marked, Next, Goes, Asks, Loads, Ends, Traps, call_own, call}
use Rattle.wasm_view.specs.Seen.{Seen}
use Rattle.wasm_step.specs.Moves.{between}
use Rattle.wasm_machine.specs.Stacks.{CallStack}
use Rattle.wasm_machine.specs.Machines.{MachineState, IsOver, IsMarked, IsAsked, Told, Begins, Unmarks, Marks, MayMark, IsStart, IsClear, waits_under}
use Rattle.wasm_machine.specs.Marks.{marked_stack, marked_next, AreMarksOver, KeepsOver}
use Rattle.wasm_machine.specs.declared.machine.Standing.{Standing}
use Rattle.wasm_machine.specs.declared.machine.Standing.TheVariants as standing
use Rattle.wasm_machine.specs.declared.event.Event.{Event}
use Rattle.wasm_machine.specs.declared.event.Event.TheVariants as event
use Rattle.wasm_machine.proofs.Marked.{marked_call}
use Rattle.wasm_machine.proofs.Under.{own_over}
use Rattle.spec_loading.specs.declared.task.Task.{Task}
use Rattle.spec_loading.specs.declared.task.After.{After}
use Rattle.spec_loading.specs.declared.task.After.TheVariants.{CallEntry}
use Rattle.spec_loading.specs.Phases.{LoaderFrame}
use Rattle.spec_loading.specs.Loading.{Loading, LoadedState, comes_to, call_next, after_next, loaded_next}
use Rattle.dyl_frames.specs.declared.frames.Pending.{Pending}
use Rattle.dyl_frames.specs.declared.frames.Core.{Core}
use Rattle.dyl_frames.specs.Cores.{frame_at, LiesOver, LiesUnder, IsLive, IsLoaded, IsSound, loader_of, IsState, Steps, is_made, is_deep_event, IsOwn, top_frame}
use Rattle.dyl_frames.proofs.Loads.{IsPlain}
use Rattle.dyl_frames.proofs.Telling.{steps_told, deep_is, live_at}
use Rattle.dyl_frames.proofs.CodeSteps.{changes, with_machine, state_moving, deep_same, same_state, by_view}
use Rattle.dyl_frames.proofs.Tops.{OnMark}
use Rattle.dyl_frames.proofs.Tasks.{live_mark}

-- ---- the first frame

-- the mark that lies over nothing is the only one
number_under : (L : ℕ → List (Frame ℕ) → Type 0) (n : ℕ) (rest : List (Frame ℕ)) → AreMarksOver L n rest → rest ≡ [] → n ≡ 0
number_under L n rest marks none = subst (λ (fs : List (Frame ℕ)). AreMarksOver L n fs) none marks

pub bare_start : (n : MachineState) → n.standing ≡ standing.Moving → n.stack.frames ≡ [] → IsStart n
bare_start n moving bare =
    let clear : IsClear n.stack.frames = subst (λ (fs : List (Frame ℕ)). IsClear fs) (sym bare) tt in
    subst (λ (st : Standing). IsStart (record { stack = n.stack; standing = st })) (sym moving) clear

pub bare_mark : (n : MachineState) → n.standing ≡ standing.Moving → n.stack.frames ≡ [] → MayMark n
bare_mark n moving bare = subst (λ (st : Standing). MayMark (record { stack = n.stack; standing = st })) (sym moving) bare

-- the mark is put again
remarked : (old u n : MachineState) → old.stack.frames ≡ Marked 0 ∷ [] → old.standing ≡ standing.Moving → Unmarks old u → Marks 0 u n → n ≡ old
remarked old u n alone moving off on =
    let stack : n.stack ≡ record old.stack { frames = Marked 0 ∷ [] } =
    on.stack ∙ ap (λ (s : CallStack). record s { frames = Marked 0 ∷ s.frames }) off.stack ∙ ap (λ (fs : List (Frame ℕ)). record old.stack { frames = Marked 0 ∷ drop 1 fs }) alone in
    let back : n.stack ≡ old.stack = stack ∙ ap (λ (fs : List (Frame ℕ)). record old.stack { frames = fs }) (sym alone) in
    both_same n old back (on.goes_on ∙ sym moving)
  where
    both_same : (a b : MachineState) → a.stack ≡ b.stack → a.standing ≡ b.standing → a ≡ b
    both_same a b p q = rw (← p, ← q) refl

-- the frame on top, which is followed by the entry, lies over nothing
module _ (c : Core) (m : OnMark c) (enters : (top_frame c).after ≡ CallEntry) where
  last_is : m.number ≡ length c.frames.items - 1
  last_is = let count = m.count in omega arith

  nothing_under : m.rest ≡ []
  nothing_under =
      let lies : LiesOver (top_frame c).after m.rest = subst (λ (i : ℕ). LiesUnder c.frames.items i m.rest) last_is m.under in
      subst (λ (a : After). LiesOver a m.rest) enters lies

  pub is_first : m.number ≡ 0
  is_first = number_under (LiesUnder c.frames.items) m.number m.rest m.marks nothing_under

  zeroth : length c.frames.items - 1 ≡ 0
  zeroth = sym last_is ∙ is_first

  pub alone : c.machine.stack.frames ≡ Marked 0 ∷ []
  alone = m.frames ∙ ap (λ (n : ℕ). Marked n ∷ m.rest) is_first ∙ ap (λ (fs : List (Frame ℕ)). Marked 0 ∷ fs) nothing_under

  module _ (n : MachineState) (u : Unmarks c.machine n) where
    pub bare : n.stack.frames ≡ []
    bare = ap (λ (s : CallStack). s.frames) u.stack ∙ ap (λ (fs : List (Frame ℕ)). drop 1 fs) alone

    pub bare_moving : n.standing ≡ standing.Moving
    bare_moving = u.waits ∙ ap (λ (fs : List (Frame ℕ)). waits_under (drop 1 fs)) alone

-- ---- the run's step

pub entry_on_top : {Units : Type 0} (D : Loading Units) (s : LoadedState Units) (f : LoaderFrame) (r : Ref) → f.tasks ≡ [] → f.after ≡ CallEntry → D.entry ≡ Some r
    → loaded_next D s (Marked f ∷ []) ≡ comes_to s (call D.view s.run.units s.run.memory (λ values. []) [] r)
entry_on_top D s f r tasks after entry =
    ap (λ (ts : List Task). loaded_next D s (Marked (record f { tasks = ts }) ∷ [])) tasks ∙ ap (λ (a : After). after_next D s [] a) after ∙ ap (λ (o : Option Ref). o >>= λ x. call_next D s [] (Some x)) entry

-- what is live once a call was begun
live_begun : {Units : Type 0} (V : View Units) (u n : MachineState) (us : Units) (memory : MemoryInstance) (e : Event) (next : Option (Next Units ℕ))
    → Told V e next u n (changes us us memory memory) → IfSome next (KeepsOver (LiesUnder []) V 0) → IfSome next IsPlain → is_deep_event e ≡ false → IsLive n.standing [] n.stack.frames
live_begun V u n us memory event.Deep next t under plain is = absurd cc
live_begun V u n us memory event.Moved (Some (Goes us' memory' frames)) t under plain is = live_at [] n frames standing.Moving t.0 under
live_begun V u n us memory (event.Waits a) (Some (Asks entry args frames)) t under plain is = live_at [] n frames (standing.Asking entry t.0) t.1 under
live_begun V u n us memory (event.Loader which first second) (Some (Loads called args frames)) t under plain is = absurd plain
live_begun V u n us memory event.Returned (Some Ends) t under plain is = live_at [] n [] standing.Returned t.0 tt
live_begun V u n us memory (event.Trapped why) (Some (Traps cause)) t under plain is = live_at [] n [] (standing.Trapped why) t.0 tt
live_begun V u n us memory e next t under plain is = absurd t

-- an own function is entered over nothing
own_call_under : {Units : Type 0} (V : View Units) (us : Units) (memory : MemoryInstance) (r : Ref) → IsOwn r → IfSome (call V us memory (λ values. []) [] r) (KeepsOver (LiesUnder []) V 0)
own_call_under V us memory (Own unit f) own = own_over (LiesUnder []) V us memory 0 (λ vs. []) [] (λ vs. refl) unit f
own_call_under V us memory (Host entry) own = absurd own
own_call_under V us memory (Loader which) own = absurd own
own_call_under V us memory (Stub unit f) own = absurd own

-- and no function of the loader is called
own_plain : {Units : Type 0} (V : View Units) (us : Units) (memory : MemoryInstance) (r : Ref) → IsOwn r → IfSome (call V us memory (λ (vs : List Value). []) [] r) IsPlain
own_plain V us memory (Own unit f) own =
    each IsPlain (V.code unit f) (call_own us memory (λ vs. []) [] unit f) (λ x. each IsPlain (take_values (reverse x.ty.params) []) _ (λ p. tt))
own_plain V us memory (Host entry) own = absurd own
own_plain V us memory (Loader which) own = absurd own
own_plain V us memory (Stub unit f) own = absurd own

module _ {Units : Type 0} (w : Seen Units) (c : Core) (h : IsSound w.fixed w.units w.memory c) (marked : IsMarked c.machine) (enters : (top_frame c).after ≡ CallEntry) (r : Ref) (own : IsOwn r) (u n : MachineState) (off : Unmarks c.machine u) (e : Event) (told : Begins w e r u n) (over : IsOver w.fixed w.units w.memory n) where
  m : OnMark c
  m = live_mark w.fixed w.units w.memory c h marked

  told_bare : Told w.fixed e (call w.fixed w.units w.memory (λ values. []) [] r) u n (between w w)
  told_bare = subst (λ (fs : List (Frame ℕ)). Told w.fixed e (call w.fixed w.units w.memory (λ _. fs) [] r) u n (between w w)) (bare c m enters u off) told.1

  -- a call that would be too deep changes nothing
  module _ (deep : is_deep_event e ≡ true) where
    pub is_deep : e ≡ event.Deep
    is_deep = go e deep
      where
        go : (x : Event) → is_deep_event x ≡ true → x ≡ event.Deep
        go event.Deep is = refl
        go event.Moved is = absurd cc
        go (event.Waits a) is = absurd cc
        go (event.Loader which first second) is = absurd cc
        go (event.Marked tag) is = absurd cc
        go event.Returned is = absurd cc
        go (event.Trapped why) is = absurd cc
        go (event.Exited code) is = absurd cc

    unchanged : n ≡ u
    unchanged =
        (deep_same w.fixed w.units w.units w.memory w.memory (call w.fixed w.units w.memory (λ values. []) [] r) u n
        (subst (λ (x : Event). Told w.fixed x (call w.fixed w.units w.memory (λ values. []) [] r) u n (between w w)) is_deep told_bare)).0

    pub may_mark : MayMark n
    may_mark = subst MayMark (sym unchanged) (bare_mark u (bare_moving c m enters u off) (bare c m enters u off))

    module _ (n' : MachineState) (on : Marks 0 n n') where
      pub back : n' ≡ c.machine
      back = remarked c.machine u n' (alone c m enters) marked.0 off (subst (λ (x : MachineState). Marks 0 x n') unchanged on)

      pub back_core : IsSound w.fixed w.units w.memory (with_machine c n')
      back_core = subst (λ (x : MachineState). IsSound w.fixed w.units w.memory (with_machine c x)) (sym back) h

  -- the core that is left once the entry was called
  pub entered_core : (new : Core) → new.machine ≡ n → new.frames.items ≡ [] → new.stages ≡ c.stages → is_deep_event e ≡ false → IsSound w.fixed w.units w.memory new
  entered_core new machine frames stages begun = record {
    over = subst (λ (x : MachineState). IsOver w.fixed w.units w.memory x) (sym machine) over;
    live = subst (λ (x : MachineState). IsLive x.standing new.frames.items x.stack.frames) (sym machine) (subst (λ (xs : List Pending). IsLive n.standing xs n.stack.frames) (sym frames) (live e begun told_bare));
    pending = λ i p found. absurd (let none = sym (ap (λ (xs : List Pending). slice_get xs i) frames) ∙ found in cc);
  }
    where
      live : (x : Event) → is_deep_event x ≡ false → Told w.fixed x (call w.fixed w.units w.memory (λ values. []) [] r) u n (between w w) → IsLive n.standing [] n.stack.frames
      live event.Deep is t = absurd cc
      live x is t = live_begun w.fixed u n w.units w.memory x (call w.fixed w.units w.memory (λ values. []) [] r) t (own_call_under w.fixed w.units w.memory r own) (own_plain w.fixed w.units w.memory r own) is

  module _ (D : Loading Units) (loaded : IsLoaded D w.fixed) (last : (top_frame c).tasks ≡ []) (entry : D.entry ≡ Some r) (s : LoadedState Units) (k : IsState D c w.units w.memory s) where
    abbrev at_call : Option (Next Units ℕ)
    at_call = call D.view w.units w.memory (λ values. []) [] r

    stack_is : s.run.stack ≡ Marked (top_frame c) ∷ []
    stack_is =
        (state_moving D c w.units w.memory s k marked.0).1 ∙ ap (λ (fs : List (Frame ℕ)). marked_stack (frame_at c.frames.items) fs) (alone c m enters)
        ∙ ap (λ (n : ℕ). Marked (frame_at c.frames.items n) ∷ []) (sym (zeroth c m enters))

    entry_comes : (f : ℕ → LoaderFrame) → loaded_next D s s.run.stack ≡ comes_to s (option_map (marked_next f) at_call)
    entry_comes f =
        ap (loaded_next D s) stack_is ∙ entry_on_top D s (top_frame c) r last enters entry
        ∙ ap (λ (x : Units). comes_to s (call D.view x s.run.memory (λ values. []) [] r)) k.units
        ∙ ap (λ (x : MemoryInstance). comes_to s (call D.view w.units x (λ values. []) [] r)) k.space
        ∙ ap (comes_to s) (marked_call D.view w.units w.memory f (λ values. []) [] r)

    told_own : Told D.view e at_call u n (between w w)
    told_own = by_view D w.fixed loaded (λ (W : View Units). Told W e (call W w.units w.memory (λ values. []) [] r) u n (between w w)) told_bare

    -- over the state's own units and memory
    told_state : Told D.view e at_call u n (changes s.run.units w.units s.run.memory w.memory)
    told_state =
        subst (λ (x : Units). Told D.view e at_call u n (changes x w.units s.run.memory w.memory)) (sym k.units)
        (subst (λ (x : MemoryInstance). Told D.view e at_call u n (changes w.units w.units x w.memory)) (sym k.space) told_own)

    pub entered_steps : (new : Core) → new.machine ≡ n → loader_of new ≡ loader_of c → is_deep_event e ≡ false → Steps D e s new w.units w.memory
    entered_steps new machine loader begun = go e begun told_state
      where
        same_loader : s.loader ≡ loader_of new
        same_loader = k.loader ∙ sym loader

        told_new : (x : Event) → Told D.view x at_call u n (changes s.run.units w.units s.run.memory w.memory) → Told D.view x at_call u new.machine (changes s.run.units w.units s.run.memory w.memory)
        told_new x t = subst (λ (y : MachineState). Told D.view x at_call u y (changes s.run.units w.units s.run.memory w.memory)) (sym machine) t

        made_go : (x : Event) → is_made x ≡ true → Told D.view x at_call u n (changes s.run.units w.units s.run.memory w.memory) → Steps D x s new w.units w.memory
        made_go x is t =
            steps_told D s s new w.units w.memory same_loader loaded.hosts x at_call u is (entry_comes (frame_at new.frames.items)) (told_new x t)
            (subst (λ (y : MachineState). IsAsked D.view y.standing) (sym machine) (by_view D w.fixed loaded (λ (W : View Units). IsOver W w.units w.memory n) over).asked)

        no_mark : (tag : ℕ) (next : Option (Next Units ℕ)) → Told D.view (event.Marked tag) next u n (changes s.run.units w.units s.run.memory w.memory) → ⊥
        no_mark tag next t = absurd t

        no_loader : (which : LoaderCall) (first second : ℕ) (next : Option (Next Units ℕ)) → IfSome next IsPlain → Told D.view (event.Loader which first second) next u n (changes s.run.units w.units s.run.memory w.memory) → ⊥
        no_loader which first second None plain t = absurd t
        no_loader which first second (Some (Goes x y frames)) plain t = absurd t
        no_loader which first second (Some (Asks entry args frames)) plain t = absurd t
        no_loader which first second (Some (Loads called args frames)) plain t = absurd plain
        no_loader which first second (Some Ends) plain t = absurd t
        no_loader which first second (Some (Traps why)) plain t = absurd t

        go : (x : Event) → is_deep_event x ≡ false → Told D.view x at_call u n (changes s.run.units w.units s.run.memory w.memory) → Steps D x s new w.units w.memory
        go event.Deep b t = absurd cc
        go (event.Marked tag) b t = absurd (no_mark tag at_call t)
        go event.Moved b t = made_go event.Moved refl t
        go (event.Waits a) b t = made_go (event.Waits a) refl t
        go (event.Loader which first second) b t = absurd (no_loader which first second at_call (own_plain D.view w.units w.memory r own) t)
        go event.Returned b t = made_go event.Returned refl t
        go (event.Trapped why) b t = made_go (event.Trapped why) refl t
        go (event.Exited code) b t = made_go (event.Exited code) refl t

    -- the mark is put again where the call would be too deep
    pub deep_steps : (n' : MachineState) → Marks 0 n n' → is_deep_event e ≡ true → Steps D e s (with_machine c n') w.units w.memory
    deep_steps n' on deep =
        let is = is_deep deep in
        let t : Told D.view event.Deep at_call u n (changes s.run.units w.units s.run.memory w.memory) = subst (λ (x : Event). Told D.view x at_call u n (changes s.run.units w.units s.run.memory w.memory)) is told_state in
        subst (λ (x : Event). Steps D x s (with_machine c n') w.units w.memory) (sym is) (
          deep_is D s s c w.units w.memory at_call u n (changes s.run.units w.units s.run.memory w.memory) (frame_at c.frames.items) (entry_comes (frame_at c.frames.items)) t,
          on.goes_on,
          same_state D c n' w.units w.units w.memory w.memory (back deep n' on) (refl, refl) s k,
        )
