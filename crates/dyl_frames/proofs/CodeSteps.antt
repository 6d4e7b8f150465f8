-- The steps of the machine are those of the run.
use Rattle.std.proofs.Common.{◌≡◌, ◌≢◌, inl, inr, ℕ, List, [], ◌∷◌, Option, Some, None, refl, ap, sym, ◌∙◌, subst, true, false}
use Rattle.std.specs.Prelude.{IfSome, length, Result, Ok, Err, IfOk, OnOk, OnErr}
use Rattle.spec_loading.specs.wasm_form.declared.Memory.{Memory}
use Rattle.spec_loading.specs.wasm_form.declared.runtime.LoaderCall.{LoaderCall}
use Rattle.std.specs.Option.{option_map}
use Rattle.spec_loading.specs.spec_runs.Systems.{Moving}
use Rattle.spec_loading.specs.spec_runtime.Memories.{MemoryInstance}
use Rattle.spec_loading.specs.spec_execution.Activations.{Activation, move}
use Rattle.spec_loading.specs.spec_execution.Views.{View}
use Rattle.spec_loading.specs.spec_execution.Runs.{is_running, Frame, Active, Marked, Next, Goes, Asks, Loads, Ends, Traps}
use Rattle.wasm_step.specs.Moves.{Changes, AreSame, between}
use Rattle.wasm_step.specs.declared.done.Done.{Done}
use Rattle.wasm_step.specs.declared.done.Done.TheVariants as done
use Rattle.wasm_view.specs.Seen.{Seen}
use Rattle.wasm_machine.specs.Machines.{MachineState, IsOver, next_of, LeavesCode, Told, Repeats, IsAtMark, IsMarked, IsCallingOutside, IsExited, Stepped, QuickStepped, MayGrow, IsWanting, second_of}
use Rattle.wasm_machine.specs.Marks.{marked_stack, marked_next, KeepsOver}
use Rattle.wasm_machine.specs.declared.machine.Standing.{Standing}
use Rattle.wasm_machine.specs.declared.machine.Standing.TheVariants as standing
use Rattle.wasm_machine.specs.declared.event.Event.{Event}
use Rattle.wasm_machine.specs.declared.event.Event.TheVariants as event
use Rattle.wasm_machine.proofs.Marked.{marked_move}
use Rattle.wasm_machine.proofs.Under.{step_over}
use Rattle.wasm_machine.proofs.Stepping.{stepped_on}
use Rattle.spec_loading.specs.Phases.{LoaderFrame}
use Rattle.spec_loading.specs.Loading.{Loading, LoadedState, comes_to, loaded_next}
use Rattle.dyl_frames.specs.declared.frames.Core.{Core}
use Rattle.dyl_frames.specs.Next.{HasCodeOnTop, IsCodeNext, CallsOrGrows, MayWant}
use Rattle.dyl_frames.specs.Cores.{frame_at, stack_of, LiesUnder, loader_arguments, IsStacked, IsLive, IsLoaded, IsSound, IsState, StandsAs, Steps, QuickSteps, StepsFrom, QuickStepsFrom, WantsFrom, IsMarkTold, is_made, is_mark}
use Rattle.dyl_frames.proofs.Loads.{IsLoad, step_load}
use Rattle.dyl_frames.proofs.Telling.{ComesFrom, steps_told, loader_told, deep_told, live_told, leaves_moving}

pub core_live : {Units : Type 0} (V : View Units) (us : Units) (memory : MemoryInstance) (c : Core) → IsSound V us memory c → c.machine.standing ≡ standing.Moving → IsStacked c.frames.items c.machine.stack.frames
core_live V us memory c h moving = subst (λ (st : Standing). IsLive st c.frames.items c.machine.stack.frames) moving h.live

pub state_moving : {Units : Type 0} (D : Loading Units) (c : Core) (us : Units) (memory : MemoryInstance) (s : LoadedState Units) → IsState D c us memory s → c.machine.standing ≡ standing.Moving
    → (s.run.status ≡ Moving) × (s.run.stack ≡ stack_of c)
state_moving D c us memory s k moving = subst (λ (st : Standing). StandsAs D c s st) moving k.standing

abbrev pub changes : {Units : Type 0} → Units → Units → MemoryInstance → MemoryInstance → Changes Units
changes us us' memory memory' = record { old_units = us; old_memory = memory; new_units = us'; new_memory = memory' }

abbrev pub with_machine : Core → MachineState → Core
with_machine c n = record c { machine = n }

repeats_nothing : (e : Event) (st : Standing) → st ≡ standing.Moving → Repeats e st → ⊥
repeats_nothing e st moving r = go e (subst (λ (x : Standing). Repeats e x) moving r)
  where
    go : (x : Event) → Repeats x standing.Moving → ⊥
    go event.Moved k = k
    go (event.Waits asked) k = k
    go (event.Loader which first second) k = k
    go (event.Marked tag) k = k
    go event.Returned k = k
    go (event.Trapped why) k = k
    go (event.Exited code) k = k
    go event.Deep k = k

at_mark : (e : Event) (frames : List (Frame ℕ)) → IsAtMark e frames → is_mark e ≡ true
at_mark (event.Marked tag) frames k = refl
at_mark e frames k = absurd k

module _ {Units : Type 0} (V : View Units) (c : Core) (n : MachineState) (us us' : Units) (memory memory' : MemoryInstance) (h : IsSound V us memory c) where
  -- nothing has changed
  pub same_core : n ≡ c.machine → AreSame (changes us us' memory memory') → IsSound V us' memory' (with_machine c n)
  same_core same kept = record {
    over = subst (λ (x : Units). IsOver V x memory' n) (sym kept.0)
        (subst (λ (x : MemoryInstance). IsOver V us x n) (sym kept.1) (subst (λ (x : MachineState). IsOver V us memory x) (sym same) h.over));
    live = subst (λ (x : MachineState). IsLive x.standing c.frames.items x.stack.frames) (sym same) h.live;
    pending = h.pending;
  }

  module _ (moving : c.machine.standing ≡ standing.Moving) where
    pub told_core : (e : Event) (next : Option (Next Units ℕ)) → Told V e next c.machine n (changes us us' memory memory') → IfSome next (KeepsOver (LiesUnder c.frames.items) V (length c.frames.items)) → IfSome next IsLoad → IsOver V us' memory' n → IsSound V us' memory' (with_machine c n)
    told_core e next t under load over = record {
      over = over;
      live = live_told V c.frames.items c.machine n (changes us us' memory memory') e next t under load h.live;
      pending = h.pending;
    }

    pub step_core : (e : Event) → Stepped V e c.machine n (changes us us' memory memory') → IsOver V us' memory' n → IsSound V us' memory' (with_machine c n)
    step_core e (inl t) over =
        told_core e (next_of V us memory c.machine.stack.frames) t.2 (step_over (LiesUnder c.frames.items) V us memory (length c.frames.items) c.machine.stack.frames (core_live V us memory c h moving).marks)
        (step_load V us memory c.machine.stack.frames) over
    step_core e (inr (inl t)) over = same_core t.2 t.3
    step_core e (inr (inr t)) over = same_core t.1 t.2

pub deep_same : {Units : Type 0} (V : View Units) (us us' : Units) (memory memory' : MemoryInstance) (next : Option (Next Units ℕ)) (old n : MachineState) → Told V event.Deep next old n (changes us us' memory memory')
    → (n ≡ old) × AreSame (changes us us' memory memory')
deep_same V us us' memory memory' (Some (Goes x y frames)) old n t = (t.1, t.2)
deep_same V us us' memory memory' (Some (Asks entry args frames)) old n t = absurd t
deep_same V us us' memory memory' (Some (Loads which args frames)) old n t = absurd t
deep_same V us us' memory memory' (Some Ends) old n t = absurd t
deep_same V us us' memory memory' (Some (Traps why)) old n t = absurd t
deep_same V us us' memory memory' None old n t = absurd t

pub same_state : {Units : Type 0} (D : Loading Units) (c : Core) (n : MachineState) (us us' : Units) (memory memory' : MemoryInstance) → n ≡ c.machine → AreSame (changes us us' memory memory')
    → (s : LoadedState Units) → IsState D c us memory s → IsState D (with_machine c n) us' memory' s
same_state D c n us us' memory memory' same kept s k = record {
  loader = k.loader;
  units = k.units ∙ sym kept.0;
  space = k.space ∙ sym kept.1;
  standing = subst (λ (x : MachineState). StandsAs D (with_machine c x) s x.standing) (sym same) k.standing;
}

-- ---- where memory is wanting

seen_grows : (h : ℕ → LoaderFrame) (frames : List (Frame ℕ)) → MayGrow frames → CallsOrGrows (marked_stack h frames)
seen_grows h [] grows = absurd grows
seen_grows h (Active a ∷ frames) grows = grows
seen_grows h (Marked tag ∷ frames) grows = tt

module _ {Units : Type 0} (D : Loading Units) (c : Core) (us : Units) (memory : MemoryInstance) (moving : c.machine.standing ≡ standing.Moving) (s : LoadedState Units) (k : IsState D c us memory s) where
  may_grow : IsWanting c.machine → MayGrow c.machine.stack.frames
  may_grow (inl lost) = absurd (let clash : standing.Moving ≡ standing.Lost = sym moving ∙ lost in cc)
  may_grow (inr grows) = grows.1

  pub may_want : IsWanting c.machine → MayWant s
  may_want wanting =
      let at = state_moving D c us memory s k moving in
      (at.0, subst CallsOrGrows (sym at.1) (seen_grows (frame_at c.frames.items) c.machine.stack.frames (may_grow wanting)))

pub wanting_after : {Units : Type 0} (w : Seen Units) (c : Core) → c.machine.standing ≡ standing.Moving → (r : Result Event Memory) → OnErr r (IsWanting c.machine) → OnErr r ((D : Loading Units) → WantsFrom D c w)
wanting_after w c moving (Ok e) wanting = tt
wanting_after w c moving (Err e) wanting = λ D s k. may_want D c w.units w.memory moving s k wanting

-- ---- what the run's step comes to

module _ {Units : Type 0} (D : Loading Units) (s : LoadedState Units) (h : ℕ → LoaderFrame) where
  pub code_next : (us : Units) (memory : MemoryInstance) (frames : List (Frame ℕ)) → is_running frames ≡ true → s.run.units ≡ us → s.run.memory ≡ memory
      → loaded_next D s (marked_stack h frames) ≡ comes_to s (option_map (marked_next h) (next_of D.view us memory frames))
  code_next us memory [] code units space = absurd cc
  code_next us memory (Active a ∷ frames) code units space =
      ap (comes_to s) (marked_move D.view s.run.units s.run.memory h frames (move (D.view.declared a.unit) a))
      ∙ ap (λ (x : Units). comes_to s (option_map (marked_next h) (next_of D.view x s.run.memory (Active a ∷ frames)))) units
      ∙ ap (λ (x : MemoryInstance). comes_to s (option_map (marked_next h) (next_of D.view us x (Active a ∷ frames)))) space
  code_next us memory (Marked tag ∷ frames) code units space = absurd cc

module _ {Units : Type 0} (D : Loading Units) (c : Core) (n : MachineState) (us us' : Units) (memory memory' : MemoryInstance) (hosts : IsLoaded D D.view) (core : IsSound D.view us memory c) (moving : c.machine.standing ≡ standing.Moving) (s : LoadedState Units) (k : IsState D c us memory s) where
  at : (s.run.status ≡ Moving) × (s.run.stack ≡ stack_of c)
  at = state_moving D c us memory s k moving

  abbrev next_here : Option (Next Units ℕ)
  next_here = next_of D.view us memory c.machine.stack.frames

  under_here : IfSome next_here (KeepsOver (LiesUnder c.frames.items) D.view (length c.frames.items))
  under_here = step_over (LiesUnder c.frames.items) D.view us memory (length c.frames.items) c.machine.stack.frames (core_live D.view us memory c core moving).marks

  comes_code : is_running c.machine.stack.frames ≡ true → ComesFrom D s s (with_machine c n) us' memory' (frame_at c.frames.items) next_here
  comes_code code = ap (loaded_next D s) at.1 ∙ code_next D s (frame_at c.frames.items) us memory c.machine.stack.frames code k.units k.space

  module _ (e : Event) (code : is_running c.machine.stack.frames ≡ true) (t : Told D.view e next_here c.machine n (changes us us' memory memory')) (over : IsOver D.view us' memory' n) where
    -- over the state's own units and memory
    over_state : Told D.view e next_here c.machine n (changes s.run.units us' s.run.memory memory')
    over_state =
        subst (λ (y : Units). Told D.view e next_here c.machine n (changes y us' s.run.memory memory')) (sym k.units)
        (subst (λ (y : MemoryInstance). Told D.view e next_here c.machine n (changes us us' y memory')) (sym k.space) t)

    made_steps : is_made e ≡ true → Steps D e s (with_machine c n) us' memory'
    made_steps is =
        steps_told D s s (with_machine c n) us' memory' k.loader hosts.hosts e next_here c.machine is (comes_code code) over_state over.asked

  -- a function of the loader is called
  loads_told : (which : LoaderCall) (first second : ℕ) (code : is_running c.machine.stack.frames ≡ true) (next : Option (Next Units ℕ)) → next_here ≡ next
      → Told D.view (event.Loader which first second) next c.machine n (changes us us' memory memory') → Steps D (event.Loader which first second) s (with_machine c n) us' memory'
  loads_told which first second code None is t = absurd t
  loads_told which first second code (Some (Goes x y frames)) is t = absurd t
  loads_told which first second code (Some (Asks entry args frames)) is t = absurd t
  loads_told which first second code (Some Ends) is t = absurd t
  loads_told which first second code (Some (Traps why)) is t = absurd t
  loads_told which first second code (Some (Loads called args frames)) is t =
      let keeps = subst (λ (o : Option (Next Units ℕ)). IfSome o (KeepsOver (LiesUnder c.frames.items) D.view (length c.frames.items))) is under_here in
      let load = subst (λ (o : Option (Next Units ℕ)). IfSome o IsLoad) is (step_load D.view us memory c.machine.stack.frames) in
      let comes = subst (λ (o : Option (Next Units ℕ)). ComesFrom D s s (with_machine c n) us' memory' (frame_at c.frames.items) o) is (comes_code code) in
      let given : args ≡ loader_arguments called first second = load.1 ∙ ap (λ (x : ℕ). loader_arguments called x (second_of args)) (sym t.2) ∙ ap (λ (x : ℕ). loader_arguments called first x) (sym t.3) in
      loader_told D s s (with_machine c n) us' memory' which called first second args frames keeps.0 comes refl t.0 t.1 given k.loader at.0 (k.units ∙ sym t.4.0) (k.space ∙ sym t.4.1)

  told_steps : (e : Event) → is_mark e ≡ false → is_running c.machine.stack.frames ≡ true → Told D.view e next_here c.machine n (changes us us' memory memory') → IsOver D.view us' memory' n
      → Steps D e s (with_machine c n) us' memory'
  told_steps event.Moved is code t over = made_steps event.Moved code t over refl
  told_steps (event.Waits asked) is code t over = made_steps (event.Waits asked) code t over refl
  told_steps (event.Loader which first second) is code t over = loads_told which first second code next_here refl t
  told_steps (event.Marked tag) is code t over = absurd cc
  told_steps event.Returned is code t over = made_steps event.Returned code t over refl
  told_steps (event.Trapped why) is code t over = made_steps (event.Trapped why) code t over refl
  told_steps (event.Exited value) is code t over = made_steps (event.Exited value) code t over refl
  told_steps event.Deep is code t over =
      let same = deep_same D.view us us' memory memory' next_here c.machine n t in
      deep_told D s s (with_machine c n) us' memory' next_here c.machine (frame_at c.frames.items) (comes_code code) (over_state event.Deep code t over)
      (ap (λ (x : MachineState). x.standing) same.0 ∙ moving)
      (same_state D c n us us' memory memory' same.0 same.1 s k)

  pub step_steps : (e : Event) → Stepped D.view e c.machine n (changes us us' memory memory') → IsOver D.view us' memory' n → is_mark e ≡ false → Steps D e s (with_machine c n) us' memory'
  step_steps e (inl t) over is = told_steps e is t.1 t.2 over
  step_steps e (inr (inl t)) over is = absurd (let wrong : true ≡ false = sym (at_mark e c.machine.stack.frames t.1) ∙ is in cc)
  step_steps e (inr (inr t)) over is = absurd (repeats_nothing e c.machine.standing moving t.0)

  -- ---- a step that is told in few bytes

  -- code is on top
  running_seen : (frames : List (Frame ℕ)) → is_running frames ≡ true → is_running (marked_stack (frame_at c.frames.items) frames) ≡ true
  running_seen [] e = e
  running_seen (Active a ∷ frames) e = refl
  running_seen (Marked tag ∷ frames) e = e

  code_on_top : (e : Event) → is_mark e ≡ false → Stepped D.view e c.machine n (changes us us' memory memory') → HasCodeOnTop s
  code_on_top e is (inl t) = ap is_running at.1 ∙ running_seen c.machine.stack.frames t.1
  code_on_top e is (inr (inl t)) = absurd (let wrong : true ≡ false = sym (at_mark e c.machine.stack.frames t.1) ∙ is in cc)
  code_on_top e is (inr (inr t)) = absurd (repeats_nothing e c.machine.standing moving t.0)

  -- no step is made, and the next isn't one of code
  abbrev StaysHere : Type 0
  StaysHere = (n.standing ≡ standing.Moving) × IsState D (with_machine c n) us' memory' s × (IsCodeNext D s → ⊥)

  stays_as : (n ≡ c.machine) × AreSame (changes us us' memory memory') → (IsCodeNext D s → ⊥) → StaysHere
  stays_as same none = (ap (λ (x : MachineState). x.standing) same.0 ∙ moving, same_state D c n us us' memory memory' same.0 same.1 s k, none)

  deep_none : Steps D event.Deep s (with_machine c n) us' memory' → StaysHere
  deep_none h = (h.1, h.2, λ code. let clash : true ≡ false = sym h.0 ∙ code.2 in cc)

  marked_idle : (st : Standing) (rooms : List ℕ) (frames : List (Frame ℕ)) → IsMarked (record { stack = record { frames = frames; rooms = rooms }; standing = st }) → is_running (marked_stack (frame_at c.frames.items) frames) ≡ false
  marked_idle st rooms [] h = refl
  marked_idle st rooms (Active a ∷ frames) h = absurd h.1
  marked_idle st rooms (Marked tag ∷ frames) h = refl

  marked_none : IsMarked c.machine → IsCodeNext D s → ⊥
  marked_none marked code =
      let idle : is_running s.run.stack ≡ false = ap is_running at.1 ∙ marked_idle c.machine.standing c.machine.stack.rooms c.machine.stack.frames marked in
      let clash : false ≡ true = sym idle ∙ code.1 in
      cc

  calling_code : (st : Standing) (rooms : List ℕ) (frames : List (Frame ℕ)) → IsCallingOutside D.view us (record { stack = record { frames = frames; rooms = rooms }; standing = st }) → is_running frames ≡ true
  calling_code st rooms [] h = absurd h.1
  calling_code st rooms (Active a ∷ frames) h = refl
  calling_code st rooms (Marked tag ∷ frames) h = absurd h.1

  outside_none : IsCallingOutside D.view us c.machine → LeavesCode next_here → IsCodeNext D s → ⊥
  outside_none calling leaves code =
      let on_top = calling_code c.machine.standing c.machine.stack.rooms c.machine.stack.frames calling in
      leaves_moving D s s (with_machine c n) us' memory' code.4 next_here (frame_at c.frames.items) (comes_code on_top) leaves code.3.0 code.3.1 code.3.2

  pub quick_steps : (d : Done) → QuickStepped D.view d c.machine n (changes us us' memory memory') → IsOver D.view us' memory' n → QuickSteps D d s (with_machine c n) us' memory'
  quick_steps done.Goes t o = ((stepped_on D.view c.machine n (changes us us' memory memory') t).1, code_on_top event.Moved refl t, step_steps event.Moved t o refl)
  quick_steps (done.Trapped why) t o = (code_on_top (event.Trapped why) refl t, step_steps (event.Trapped why) t o refl)
  quick_steps done.Returned t o = (code_on_top event.Returned refl t, step_steps event.Returned t o refl)
  quick_steps done.Exited t o = subst IsExited moving t.0
  quick_steps done.Marked t o = stays_as (t.1, t.2) (marked_none t.0)
  quick_steps done.Deep t o = deep_none (step_steps event.Deep t o refl)
  quick_steps done.Outside t o = stays_as (t.1, t.2) (outside_none t.0 t.3)
  quick_steps done.NoMemory t o = may_want D c us memory moving s k t.0

-- ---- as the machine tells it over its own view

pub by_view : {Units : Type 0} (D : Loading Units) (V : View Units) → IsLoaded D V → (P : View Units → Type 0) → P V → P D.view
by_view D V loaded P p = subst P (sym loaded.view) p

module _ {Units : Type 0} (D : Loading Units) (w w' : Seen Units) (loaded : IsLoaded D w.fixed) (c : Core) (n : MachineState) (core : IsSound w.fixed w.units w.memory c) (moving : c.machine.standing ≡ standing.Moving) (o : IsOver w.fixed w'.units w'.memory n) where
  own : IsLoaded D D.view
  own = record { view = refl; hosts = loaded.hosts }

  core_seen : IsSound D.view w.units w.memory c
  core_seen = by_view D w.fixed loaded (λ (W : View Units). IsSound W w.units w.memory c) core

  over_seen : IsOver D.view w'.units w'.memory n
  over_seen = by_view D w.fixed loaded (λ (W : View Units). IsOver W w'.units w'.memory n) o

  pub steps_from : (e : Event) → Stepped w.fixed e c.machine n (between w w') → is_mark e ≡ false → StepsFrom D e c w (with_machine c n) w'
  steps_from e t is s k =
      step_steps D c n w.units w'.units w.memory w'.memory own core_seen moving s k e (by_view D w.fixed loaded (λ (W : View Units). Stepped W e c.machine n (between w w')) t) over_seen is

  pub quick_from : (d : Done) → QuickStepped w.fixed d c.machine n (between w w') → QuickStepsFrom D d c w (with_machine c n) w'
  quick_from d t s k =
      quick_steps D c n w.units w'.units w.memory w'.memory own core_seen moving s k d (by_view D w.fixed loaded (λ (W : View Units). QuickStepped W d c.machine n (between w w')) t) over_seen

pub quick_core : {Units : Type 0} (w w' : Seen Units) (c : Core) (n : MachineState) (core : IsSound w.fixed w.units w.memory c) (moving : c.machine.standing ≡ standing.Moving) (d : Done) → QuickStepped w.fixed d c.machine n (between w w') → IsOver w.fixed w'.units w'.memory n → d ≢ done.NoMemory
    → IsSound w.fixed w'.units w'.memory (with_machine c n)
quick_core w w' c n core moving done.Goes t o found = step_core w.fixed c n w.units w'.units w.memory w'.memory core moving event.Moved t o
quick_core w w' c n core moving (done.Trapped why) t o found = step_core w.fixed c n w.units w'.units w.memory w'.memory core moving (event.Trapped why) t o
quick_core w w' c n core moving done.Returned t o found = step_core w.fixed c n w.units w'.units w.memory w'.memory core moving event.Returned t o
quick_core w w' c n core moving done.Exited t o found = same_core w.fixed c n w.units w'.units w.memory w'.memory core t.1 t.2
quick_core w w' c n core moving done.Marked t o found = same_core w.fixed c n w.units w'.units w.memory w'.memory core t.1 t.2
quick_core w w' c n core moving done.Deep t o found = step_core w.fixed c n w.units w'.units w.memory w'.memory core moving event.Deep t o
quick_core w w' c n core moving done.Outside t o found = same_core w.fixed c n w.units w'.units w.memory w'.memory core t.1 t.2
quick_core w w' c n core moving done.NoMemory t o found = absurd (found refl)

-- ---- what is told of a call for a step

pub core_after : {Units : Type 0} (w w' : Seen Units) (c : Core) (n : MachineState) → IsSound w.fixed w.units w.memory c → c.machine.standing ≡ standing.Moving → (r : Result Event Memory)
    → IfOk r (λ e. Stepped w.fixed e c.machine n (between w w')) → IsOver w.fixed w'.units w'.memory n → OnOk r (IsSound w.fixed w'.units w'.memory (with_machine c n))
core_after w w' c n core moving (Ok e) t over = step_core w.fixed c n w.units w'.units w.memory w'.memory core moving e t over
core_after w w' c n core moving (Err e) t over = tt

pub steps_after : {Units : Type 0} (w w' : Seen Units) (c : Core) (n : MachineState) → IsSound w.fixed w.units w.memory c → c.machine.standing ≡ standing.Moving → (r : Result Event Memory)
    → IfOk r (λ e. Stepped w.fixed e c.machine n (between w w')) → IsOver w.fixed w'.units w'.memory n
    → IfOk r (λ e. is_mark e ≡ false → (D : Loading Units) → IsLoaded D w.fixed → StepsFrom D e c w (with_machine c n) w')
steps_after w w' c n core moving (Ok e) t over = λ is D loaded. steps_from D w w' loaded c n core moving over e t is
steps_after w w' c n core moving (Err e) t over = tt

-- a mark on top is told, and nothing has changed
pub told_no_mark : {Units : Type 0} (V : View Units) (e : Event) (next : Option (Next Units ℕ)) (old n : MachineState) (c : Changes Units) → Told V e next old n c → is_mark e ≡ false
told_no_mark V event.Moved next old n c t = refl
told_no_mark V (event.Waits a) next old n c t = refl
told_no_mark V (event.Loader which first second) next old n c t = refl
told_no_mark V event.Returned next old n c t = refl
told_no_mark V (event.Trapped why) next old n c t = refl
told_no_mark V (event.Exited code) next old n c t = refl
told_no_mark V event.Deep next old n c t = refl
told_no_mark V (event.Marked tag) (Some (Goes us memory frames)) old n c t = absurd t
told_no_mark V (event.Marked tag) (Some (Asks entry args frames)) old n c t = absurd t
told_no_mark V (event.Marked tag) (Some (Loads which args frames)) old n c t = absurd t
told_no_mark V (event.Marked tag) (Some Ends) old n c t = absurd t
told_no_mark V (event.Marked tag) (Some (Traps why)) old n c t = absurd t
told_no_mark V (event.Marked tag) None old n c t = absurd t

none_there : (e : Event) → IsAtMark e [] → ⊥
none_there (event.Marked tag) k = k
none_there e k = k

code_there : (e : Event) (a : Activation) (frames : List (Frame ℕ)) → IsAtMark e (Active a ∷ frames) → ⊥
code_there (event.Marked tag) a frames k = k
code_there e a frames k = k

marked_there : (st : Standing) (rooms : List ℕ) (frames : List (Frame ℕ)) (e : Event) → st ≡ standing.Moving → IsAtMark e frames → IsMarked (record { stack = record { frames = frames; rooms = rooms }; standing = st })
marked_there st rooms (Marked tag ∷ frames) e moving k = (moving, tt)
marked_there st rooms (Active a ∷ frames) e moving k = absurd (code_there e a frames k)
marked_there st rooms [] e moving k = absurd (none_there e k)

same_seen : {Units : Type 0} (w w' : Seen Units) → w'.fixed ≡ w.fixed → w'.units ≡ w.units → w'.memory ≡ w.memory → w' ≡ w
same_seen w w' a b c = rw (← a, ← b, ← c) refl

pub mark_told : {Units : Type 0} (w w' : Seen Units) (c : Core) (n : MachineState) → w'.fixed ≡ w.fixed → c.machine.standing ≡ standing.Moving → (r : Result Event Memory)
    → IfOk r (λ e. Stepped w.fixed e c.machine n (between w w')) → IfOk r (λ e. is_mark e ≡ true → IsMarkTold c w (with_machine c n) w')
mark_told w w' c n fixed moving (Err e) t = tt
mark_told w w' c n fixed moving (Ok e) t = λ is. go is t
  where
    go : is_mark e ≡ true → Stepped w.fixed e c.machine n (between w w') → IsMarkTold c w (with_machine c n) w'
    go is (inl k) = absurd (let wrong : true ≡ false = sym is ∙ told_no_mark w.fixed e _ c.machine n (between w w') k.2 in cc)
    go is (inr (inl k)) = (ap (with_machine c) k.2, same_seen w w' fixed k.3.0 k.3.1, marked_there c.machine.standing c.machine.stack.rooms c.machine.stack.frames e moving k.1)
    go is (inr (inr k)) = absurd (repeats_nothing e c.machine.standing moving k.0)
