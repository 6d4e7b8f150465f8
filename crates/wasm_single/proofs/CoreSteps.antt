-- The steps of the machine and the answers that it takes are those of the run.
use Rattle.std.proofs.Common.{◌≡◌, ◌≢◌, inl, inr, ℕ, zero, suc, List, [], ◌∷◌, Option, Some, None, refl, ap, sym, ◌∙◌, subst, Bool, true, false}
use Rattle.std.specs.Prelude.{IfSome, IsTrue, map, reverse}
use Rattle.std.specs.Option.{option_map}
use Rattle.wasm_form.specs.declared.module.Module.{Module}
use Rattle.wasm_form.specs.declared.runtime.Answer.{Answer}
use Rattle.wasm_form.specs.declared.runtime.Answer.TheVariants.{Reply, Exit}
use Rattle.wasm_form.specs.declared.runtime.Value.{Value}
use Rattle.wasm_form.specs.declared.runtime.Value.TheVariants.{Num}
use Rattle.spec_safety.specs.spec_runtime.Memories.{MemoryInstance}
use Rattle.spec_safety.specs.spec_runtime.Names.{HostName}
use Rattle.spec_safety.specs.spec_runtime.Hosts.{fits_results}
use Rattle.spec_safety.specs.spec_execution.Views.{View}
use Rattle.spec_safety.specs.spec_execution.Runs.{is_running, Frame, Active, Marked, given}
use Rattle.spec_safety.specs.spec_execution.Instances.{ModuleParts, module_view, module_hosts, host_type}
use Rattle.spec_safety.specs.spec_execution.OneModule.{Starting, ModuleState, module_next}
use Rattle.wasm_step.specs.Moves.{Changes, AreSame}
use Rattle.wasm_step.specs.declared.done.Done.{Done}
use Rattle.wasm_step.specs.declared.done.Done.TheVariants as done
use Rattle.wasm_instance.specs.States.{InstanceState}
use Rattle.wasm_machine.specs.Machines.{MachineState, IsOver, next_of, LeavesCode, Told, Repeats, IsAtMark, IsMarked, IsCallingOutside, IsExited, Stepped, QuickStepped, FitsAnswer, Answered, Received, MayGrow, IsWanting, Point, passed, GoesOn, Runs}
use Rattle.wasm_machine.specs.Iterated.{Iterated}
use Rattle.wasm_machine.specs.declared.machine.Standing.{Standing}
use Rattle.wasm_machine.specs.declared.machine.Standing.TheVariants as standing
use Rattle.wasm_machine.specs.declared.event.Event.{Event}
use Rattle.wasm_machine.specs.declared.event.Event.TheVariants as event
use Rattle.wasm_single.specs.declared.bare_run.Core.{Core}
use Rattle.wasm_single.specs.declared.bare_run.Phase.{Phase}
use Rattle.wasm_single.specs.declared.bare_run.Phase.TheVariants as phase
use Rattle.wasm_single.specs.Singles.{CallsOrGrows, MayWant}
use Rattle.wasm_single.specs.Cores.{seen, starting_of, IsInPhase, IsLive, IsCore, IsState, StandsAs, Steps, QuickSteps, CodeStep, StopsAt, RunsTo, IsCodeNext, FitsHost, MayTake, is_begun, is_mark}
use Rattle.wasm_machine.specs.Marks.{AreMarks, KeepsUnder}
use Rattle.wasm_machine.proofs.Under.{step_under}
use Rattle.wasm_machine.proofs.Stepping.{stepped_on}
use Rattle.wasm_single.proofs.Seen.{seen_next, seen_step}
use Rattle.wasm_single.proofs.Telling.{marks_in, under_phase, stack_called, steps_told, deep_told, leaves_moving, live_at, live_told}
use Rattle.wasm_single.proofs.Calling.{live_moving, state_moving, deep_same, is_deep_event}

-- ---- what is on top

marked_idle : (starting : Starting) (st : Standing) (rooms : List ℕ) (frames : List (Frame ℕ)) → IsMarked (record { stack = record { frames = frames; rooms = rooms }; standing = st }) → is_running (seen starting frames) ≡ false
marked_idle starting st rooms [] h = refl
marked_idle starting st rooms (Active a ∷ frames) h = absurd h.1
marked_idle starting st rooms (Marked tag ∷ frames) h = refl

calling_code : {Units : Type 0} (V : View Units) (us : Units) (st : Standing) (rooms : List ℕ) (frames : List (Frame ℕ)) → IsCallingOutside V us (record { stack = record { frames = frames; rooms = rooms }; standing = st })
    → is_running frames ≡ true
calling_code V us st rooms [] h = absurd h.1
calling_code V us st rooms (Active a ∷ frames) h = refl
calling_code V us st rooms (Marked tag ∷ frames) h = absurd h.1

seen_grows : (starting : Starting) (frames : List (Frame ℕ)) → MayGrow frames → CallsOrGrows (seen starting frames)
seen_grows starting [] h = h
seen_grows starting (Active a ∷ frames) h = h
seen_grows starting (Marked tag ∷ frames) h = tt

-- memory is wanting only where code calls or grows
pub wants_grown : (c : Core) → c.machine.standing ≡ standing.Moving → c.phase ≢ phase.Opened → IsWanting c.machine → (s : ModuleState) → IsState c s → MayWant s
wants_grown c moving called wanting s k =
    let at = state_moving c s k moving in
    let stack = at.1 ∙ stack_called c.phase (starting_of c) c.machine.stack.frames called in
    (at.0, subst CallsOrGrows (sym stack) (seen_grows (starting_of c) c.machine.stack.frames (grows wanting)))
  where
    grows : IsWanting c.machine → MayGrow c.machine.stack.frames
    grows (inl lost) = absurd (let clash : standing.Moving ≡ standing.Lost = sym moving ∙ lost in cc)
    grows (inr next) = next.1

abbrev changes : InstanceState → InstanceState → Changes ModuleParts
changes old new = record { old_units = old.parts; old_memory = old.memory; new_units = new.parts; new_memory = new.memory }

abbrev with_both : Core → InstanceState → MachineState → Core
with_both c i n = record c { instance = i; machine = n }

module _ (c : Core) (i : InstanceState) (n : MachineState) (h : IsCore c) (fixed : module_view i.wasm ≡ module_view c.instance.wasm) where
  -- ---- nothing has changed

  module _ (same : n ≡ c.machine) (kept : AreSame (changes c.instance i)) where
    same_over : IsOver (module_view c.checked.now) i.parts i.memory n
    same_over =
        subst (λ (us : ModuleParts). IsOver (module_view c.checked.now) us i.memory n) (sym kept.0)
        (subst (λ (space : MemoryInstance). IsOver (module_view c.checked.now) c.instance.parts space n) (sym kept.1)
        (subst (λ (x : MachineState). IsOver (module_view c.checked.now) c.instance.parts c.instance.memory x) (sym same) h.over))

    same_core : IsCore (with_both c i n)
    same_core = record {
      fixed = fixed ∙ h.fixed;
      over = same_over;
      live = subst (λ (x : MachineState). IsLive x.standing x.stack.frames c.phase) (sym same) h.live;
      start = h.start;
      entry = h.entry;
      own = h.own;
    }

    same_state : (s : ModuleState) → IsState c s → IsState (with_both c i n) s
    same_state s k = record {
      units = k.units ∙ sym kept.0;
      memory = k.memory ∙ sym kept.1;
      standing = subst (λ (x : MachineState). StandsAs (with_both c i x) s x.standing) (sym same) k.standing;
    }

  -- ---- a step

  module _ (moving : c.machine.standing ≡ standing.Moving) (called : c.phase ≢ phase.Opened) where
    stack_seen : (s : ModuleState) → IsState c s → s.stack ≡ seen (starting_of c) c.machine.stack.frames
    stack_seen s k = (state_moving c s k moving).1 ∙ stack_called c.phase (starting_of c) c.machine.stack.frames called

    code_next : (s : ModuleState) → IsState c s → is_running c.machine.stack.frames ≡ true
        → module_next c.checked.now s s.stack ≡ option_map (seen_next (starting_of c)) (next_of (module_view c.checked.now) c.instance.parts c.instance.memory c.machine.stack.frames)
    code_next s k code =
        ap (λ (fs : List (Frame Starting)). module_next c.checked.now s fs) (stack_seen s k) ∙ seen_step c.checked.now s (starting_of c) c.machine.stack.frames code
        ∙ ap (λ (us : ModuleParts). option_map (seen_next (starting_of c)) (next_of (module_view c.checked.now) us s.memory c.machine.stack.frames)) k.units
        ∙ ap (λ (space : MemoryInstance). option_map (seen_next (starting_of c)) (next_of (module_view c.checked.now) c.instance.parts space c.machine.stack.frames)) k.memory

    code_under : IfSome (next_of (module_view c.checked.now) c.instance.parts c.instance.memory c.machine.stack.frames) (KeepsUnder (module_view c.checked.now) (marks_in c.phase))
    code_under =
        step_under (module_view c.checked.now) c.instance.parts c.instance.memory (marks_in c.phase) c.machine.stack.frames
        (under_phase c.phase c.machine.stack.frames called (live_moving c h moving)).marks

    module _ (e : Event) (t : Told (module_view c.checked.now) e (next_of (module_view c.checked.now) c.instance.parts c.instance.memory c.machine.stack.frames) c.machine n (changes c.instance i)) where
      module _ (deep : is_begun e ≡ false) where
        deep_kept : (n ≡ c.machine) × AreSame (changes c.instance i)
        deep_kept =
            deep_same (module_view c.checked.now) (next_of (module_view c.checked.now) c.instance.parts c.instance.memory c.machine.stack.frames) c.machine n (changes c.instance i)
            (
            subst (λ (x : Event). Told (module_view c.checked.now) x (next_of (module_view c.checked.now) c.instance.parts c.instance.memory c.machine.stack.frames) c.machine n (changes c.instance i))
            (is_deep_event e deep) t
            )

        deep_code : (s : ModuleState) → IsState c s → is_running c.machine.stack.frames ≡ true → Steps e s (with_both c i n)
        deep_code s k code =
            subst (λ (x : Event). Steps x s (with_both c i n)) (sym (is_deep_event e deep)) (
            deep_told (with_both c i n) s (starting_of c) (next_of (module_view c.checked.now) c.instance.parts c.instance.memory c.machine.stack.frames) c.machine (changes c.instance i) (code_next s k code)
            (
            subst (λ (x : Event). Told (module_view c.checked.now) x (next_of (module_view c.checked.now) c.instance.parts c.instance.memory c.machine.stack.frames) c.machine n (changes c.instance i))
            (is_deep_event e deep) t
            )
            (ap (λ (x : MachineState). x.standing) deep_kept.0 ∙ moving)
            (same_state deep_kept.0 deep_kept.1 s k)
            )

      code_core : IsOver (module_view c.checked.now) i.parts i.memory n → (begun : Bool) → is_begun e ≡ begun → IsCore (with_both c i n)
      code_core over true begun = record {
        fixed = fixed ∙ h.fixed;
        over = over;
        live = live_told (module_view c.checked.now) refl c.phase c.machine n (changes c.instance i) e (next_of (module_view c.checked.now) c.instance.parts c.instance.memory c.machine.stack.frames) begun called t code_under;
        start = h.start;
        entry = h.entry;
        own = h.own;
      }
      code_core over false deep = let kept = deep_kept deep in same_core kept.0 kept.1

      code_steps : IsOver (module_view c.checked.now) i.parts i.memory n → (begun : Bool) → is_begun e ≡ begun → is_running c.machine.stack.frames ≡ true → (s : ModuleState) → IsState c s → Steps e s (with_both c i n)
      code_steps over true begun code s k =
          steps_told (with_both c i n) s c.machine c.instance.parts c.instance.memory e (next_of (module_view c.checked.now) c.instance.parts c.instance.memory c.machine.stack.frames) begun called k.units k.memory
          (code_next s k code) t code_under over.asked
      code_steps over false deep code s k = deep_code deep s k code

    repeats_nothing : (e : Event) → Repeats e c.machine.standing → ⊥
    repeats_nothing e r = go e (subst (λ (st : Standing). Repeats e st) moving r)
      where
        go : (x : Event) → Repeats x standing.Moving → ⊥
        go event.Moved k = k
        go (event.Waits asked) k = k
        go (event.Loader which first second) k = k
        go (event.Marked tag) k = k
        go event.Returned k = k
        go (event.Trapped why) k = k
        go (event.Exited code) k = k
        go event.Deep k = k

    module _ (e : Event) (st : Stepped (module_view c.checked.now) e c.machine n (changes c.instance i)) (over : IsOver (module_view c.checked.now) i.parts i.memory n) where
      step_core : IsCore (with_both c i n)
      step_core = go st
        where
          go : Stepped (module_view c.checked.now) e c.machine n (changes c.instance i) → IsCore (with_both c i n)
          go (inl k) = code_core e k.2 over (is_begun e) refl
          go (inr (inl k)) = same_core k.2 k.3
          go (inr (inr k)) = same_core k.1 k.2

      at_mark : (frames : List (Frame ℕ)) → IsAtMark e frames → is_mark e ≡ true
      at_mark frames k = go e frames k
        where
          go : (x : Event) (fs : List (Frame ℕ)) → IsAtMark x fs → is_mark x ≡ true
          go (event.Marked tag) fs k = refl
          go x fs k = absurd k

      step_steps : is_mark e ≡ false → (s : ModuleState) → IsState c s → Steps e s (with_both c i n)
      step_steps plain s k = go st
        where
          go : Stepped (module_view c.checked.now) e c.machine n (changes c.instance i) → Steps e s (with_both c i n)
          go (inl t) = code_steps e t.2 over (is_begun e) refl t.1 s k
          go (inr (inl t)) = absurd (let wrong : true ≡ false = sym (at_mark c.machine.stack.frames t.1) ∙ plain in cc)
          go (inr (inr t)) = absurd (repeats_nothing e t.0)

-- ---- the step of a machine over the instance

module _ (c : Core) (i : InstanceState) (n : MachineState) (h : IsCore c) (moving : c.machine.standing ≡ standing.Moving) (called : c.phase ≢ phase.Opened) (fixed : module_view i.wasm ≡ module_view c.instance.wasm) where
  by_module : (e : Event) → Stepped (module_view c.instance.wasm) e c.machine n (changes c.instance i) → Stepped (module_view c.checked.now) e c.machine n (changes c.instance i)
  by_module e t = subst (λ (V : View ModuleParts). Stepped V e c.machine n (changes c.instance i)) h.fixed t

  over_module : IsOver (module_view c.instance.wasm) i.parts i.memory n → IsOver (module_view c.checked.now) i.parts i.memory n
  over_module o = subst (λ (V : View ModuleParts). IsOver V i.parts i.memory n) h.fixed o

  pub core_after : (e : Event) → Stepped (module_view c.instance.wasm) e c.machine n (changes c.instance i) → IsOver (module_view c.instance.wasm) i.parts i.memory n → IsCore (with_both c i n)
  core_after e t o = step_core c i n h fixed moving called e (by_module e t) (over_module o)

  pub steps_after : (e : Event) → Stepped (module_view c.instance.wasm) e c.machine n (changes c.instance i) → IsOver (module_view c.instance.wasm) i.parts i.memory n → is_mark e ≡ false
      → (s : ModuleState) → IsState c s → Steps e s (with_both c i n)
  steps_after e t o plain s k = step_steps c i n h fixed moving called e (by_module e t) (over_module o) plain s k

  -- ---- a step that is told in few bytes

  -- no step is made, and the next isn't one of code
  stays_as : (n ≡ c.machine) × AreSame (changes c.instance i) → (s : ModuleState) → IsState c s → (IsCodeNext c.checked.now s → ⊥)
      → (n.standing ≡ standing.Moving) × IsState (with_both c i n) s × (IsCodeNext c.checked.now s → ⊥)
  stays_as same s k none = (ap (λ (x : MachineState). x.standing) same.0 ∙ moving, same_state c i n h fixed same.0 same.1 s k, none)

  deep_none : (s : ModuleState) → Steps event.Deep s (with_both c i n) → (n.standing ≡ standing.Moving) × IsState (with_both c i n) s × (IsCodeNext c.checked.now s → ⊥)
  deep_none s k = (k.1, k.2, λ code. let clash : true ≡ false = sym k.0 ∙ code.2 in cc)

  marked_none : (s : ModuleState) → IsState c s → IsMarked c.machine → IsCodeNext c.checked.now s → ⊥
  marked_none s k marked code =
      let idle : is_running s.stack ≡ false = ap is_running (stack_seen c i n h fixed moving called s k) ∙ marked_idle (starting_of c) c.machine.standing c.machine.stack.rooms c.machine.stack.frames marked in
      let clash : false ≡ true = sym idle ∙ code.1 in
      cc

  outside_none : (s : ModuleState) → IsState c s → IsCallingOutside (module_view c.instance.wasm) c.instance.parts c.machine
      → LeavesCode (next_of (module_view c.instance.wasm) c.instance.parts c.instance.memory c.machine.stack.frames) → IsCodeNext c.checked.now s → ⊥
  outside_none s k calling leaves code =
      let on_top = calling_code (module_view c.instance.wasm) c.instance.parts c.machine.standing c.machine.stack.rooms c.machine.stack.frames calling in
      leaves_moving c.checked.now s (starting_of c) (next_of (module_view c.checked.now) c.instance.parts c.instance.memory c.machine.stack.frames) (code_next c i n h fixed moving called s k on_top)
      (subst (λ (V : View ModuleParts). LeavesCode (next_of V c.instance.parts c.instance.memory c.machine.stack.frames)) h.fixed leaves)
      code.3.0 code.3.1 code.3.2

  quick_steps : (d : Done) → QuickStepped (module_view c.instance.wasm) d c.machine n (changes c.instance i) → IsOver (module_view c.instance.wasm) i.parts i.memory n
      → (s : ModuleState) → IsState c s → QuickSteps d s (with_both c i n)
  quick_steps done.Goes t o s k = ((stepped_on (module_view c.instance.wasm) c.machine n (changes c.instance i) t).1, steps_after event.Moved t o refl s k)
  quick_steps (done.Trapped why) t o s k = steps_after (event.Trapped why) t o refl s k
  quick_steps done.Returned t o s k = steps_after event.Returned t o refl s k
  quick_steps done.Exited t o s k = subst IsExited moving t.0
  quick_steps done.Marked t o s k = stays_as (t.1, t.2) s k (marked_none s k t.0)
  quick_steps done.Deep t o s k = deep_none s (steps_after event.Deep t o refl s k)
  quick_steps done.Outside t o s k = stays_as (t.1, t.2) s k (outside_none s k t.0 t.3)
  quick_steps done.NoMemory t o s k = wants_grown c moving called t.0 s k

  quick_core : (d : Done) → QuickStepped (module_view c.instance.wasm) d c.machine n (changes c.instance i) → IsOver (module_view c.instance.wasm) i.parts i.memory n → d ≢ done.NoMemory → IsCore (with_both c i n)
  quick_core done.Goes t o found = core_after event.Moved t o
  quick_core (done.Trapped why) t o found = core_after (event.Trapped why) t o
  quick_core done.Returned t o found = core_after event.Returned t o
  quick_core done.Exited t o found = same_core c i n h fixed t.1 t.2
  quick_core done.Marked t o found = same_core c i n h fixed t.1 t.2
  quick_core done.Deep t o found = core_after event.Deep t o
  quick_core done.Outside t o found = same_core c i n h fixed t.1 t.2
  quick_core done.NoMemory t o found = absurd (found refl)

-- ---- many steps

module _ (c : Core) (h : IsCore c) (moving : c.machine.standing ≡ standing.Moving) (called : c.phase ≢ phase.Opened) where
  abbrev V : View ModuleParts
  V = module_view c.instance.wasm

  abbrev point : InstanceState → MachineState → Point ModuleParts
  point i n = record { machine = n; units = i.parts; memory = i.memory }

  abbrev instance_at : Point ModuleParts → InstanceState
  instance_at p = record c.instance { parts = p.units; memory = p.memory }

  abbrev core_at : Point ModuleParts → Core
  core_at p = with_both c (instance_at p) p.machine

  -- the core stands at a point after so many steps, and goes on
  record IsThere (n : ℕ) (p : Point ModuleParts) : Type 0 where
    pub core : IsCore (core_at p)
    pub goes : p.machine.standing ≡ standing.Moving
    pub stands : (s : ModuleState) → IsState c s → (u : ModuleState) × Iterated (CodeStep c.checked.now) n s u × IsState (core_at p) u

  there : (n : ℕ) (p : Point ModuleParts) → Iterated (GoesOn V) n (point c.instance c.machine) p → IsThere n p
  there zero p same = subst (IsThere zero) (sym same) (record { core = h; goes = moving; stands = λ s k. (s, refl, k) })
  there (suc n) p made =
      let r = made.0 in
      let a = there n r made.1 in
      record {
        core = quick_core (core_at r) (instance_at p) p.machine a.core a.goes called refl done.Goes made.2.0 made.2.1 (λ e. let clash : done.Goes ≡ done.NoMemory = e in cc);
        goes = (stepped_on V r.machine p.machine (passed r p) made.2.0).1;
        stands = λ s k.
            let b = a.stands s k in
            let q = quick_steps (core_at r) (instance_at p) p.machine a.core a.goes called refl done.Goes made.2.0 made.2.1 b.0 b.2 in
            let t = q.1.1 in
            (t.0, (b.0, b.1, (q.1.0, t.1, (state_moving (core_at p) t.0 t.3 q.0).0)), t.3);
      }

  module _ (n : ℕ) (d : Done) (i : InstanceState) (m : MachineState) (fixed : module_view i.wasm ≡ V) (over : IsOver V i.parts i.memory m) (runs : Runs V n d (point c.instance c.machine) (point i m)) where
    last : IsThere n runs.0
    last = there n runs.0 runs.1

    -- no step more was made
    module _ (same : point i m ≡ runs.0) where
      same_machine : m ≡ runs.0.machine
      same_machine = ap (λ (p : Point ModuleParts). p.machine) same

      same_rest : AreSame (changes (instance_at runs.0) i)
      same_rest = (ap (λ (p : Point ModuleParts). p.units) same, ap (λ (p : Point ModuleParts). p.memory) same)

    pub runs_after : (s : ModuleState) → IsState c s → RunsTo n d s (with_both c i m)
    runs_after s k =
        let b = last.stands s k in (
          b.0,
          b.1,
          elim runs.2 as (λ _. StopsAt d b.0 (with_both c i m)) [
            | inl q ↦ inl (q.0, ap (λ (x : MachineState). x.standing) (same_machine q.1) ∙ last.goes, same_state (core_at runs.0) i m last.core fixed (same_machine q.1) (same_rest q.1) b.0 b.2)
            | inr q ↦ inr (q.0, quick_steps (core_at runs.0) i m last.core last.goes called fixed d q.1 over b.0 b.2)
          ],
        )

    pub core_run : d ≢ done.NoMemory → IsCore (with_both c i m)
    core_run found = elim runs.2 as (λ _. IsCore (with_both c i m)) [
      | inl q ↦ same_core (core_at runs.0) i m last.core fixed (same_machine q.1) (same_rest q.1)
      | inr q ↦ quick_core (core_at runs.0) i m last.core last.goes called fixed d q.1 over found
    ]

-- ---- answers

fits_standing : (m : Module) (memory : MemoryInstance) (a : Answer) (st : Standing) → FitsHost m memory a st → FitsAnswer (module_view m) memory a st
fits_standing m memory a (standing.Asking entry count) fits = go (module_hosts m entry) fits
  where
    go : (host : Option HostName) → IfSome host (λ h. IsTrue (fits_results h.ty.results memory a)) → IfSome (host_type host) (λ ty. IsTrue (fits_results ty.results memory a))
    go None fits = tt
    go (Some h) fits = fits
fits_standing m memory a st fits = absurd fits

pub fits_view : (c : Core) (a : Answer) → IsCore c → MayTake c a → FitsAnswer (module_view c.instance.wasm) c.instance.memory a c.machine.standing
fits_view c a h fits = subst (λ (V : View ModuleParts). FitsAnswer V c.instance.memory a c.machine.standing) (sym h.fixed) (fits_standing c.checked.now c.instance.memory a c.machine.standing fits)

-- values are given to what waited, and the marks stay
given_marks : (values : List Value) (n : ℕ) (f : Frame ℕ) (frames : List (Frame ℕ)) → AreMarks n (f ∷ frames) → AreMarks n (given values f ∷ frames)
given_marks values n (Active a) frames h = h
given_marks values n (Marked tag) frames h = h

given_phase : (p : Phase) (values : List Value) (f : Frame ℕ) (frames : List (Frame ℕ)) → p ≢ phase.Opened → IsInPhase p (f ∷ frames) → IsInPhase p (given values f ∷ frames)
given_phase phase.Opened values f frames called h = absurd (called refl)
given_phase phase.Marked values f frames called h = given_marks values 1 f frames h
given_phase phase.Entered values f frames called h = (λ e. cc, given_marks values 0 f frames h.1)

live_received : (p : Phase) (results : List ℕ) (frames : List (Frame ℕ)) (n : MachineState) → p ≢ phase.Opened → IsInPhase p frames → Received frames results n → IsLive n.standing n.stack.frames p
live_received p results [] n called h r = live_at p n [] standing.Returned r tt
live_received p results (f ∷ frames) n called h r =
    live_at p n (given (reverse (map Num results)) f ∷ frames) standing.Moving r (given_phase p (reverse (map Num results)) f frames called h)

live_answered : (m : Module) (memory : MemoryInstance) (p : Phase) (a : Answer) (old n : MachineState) (c : Changes ModuleParts)
    → IsLive old.standing old.stack.frames p → FitsHost m memory a old.standing → Answered a old n c → IsLive n.standing n.stack.frames p
live_answered m memory p a old n c h fits t = go old.standing h fits
  where
    taken : (x : Answer) → IsInPhase p old.stack.frames → p ≢ phase.Opened → Answered x old n c → IsLive n.standing n.stack.frames p
    taken (Reply results writes) k called u = live_received p results old.stack.frames n called k u.0
    taken (Exit code) k called u = live_at p n [] (standing.Exited code) u.0 tt

    go : (st : Standing) → IsLive st old.stack.frames p → FitsHost m memory a st → IsLive n.standing n.stack.frames p
    go (standing.Asking entry count) k f = taken a k.0 k.1 t
    go st k f = absurd f

-- what is so of a core stays so when an answer is taken
pub core_answered : (c : Core) (i : InstanceState) (n : MachineState) (a : Answer) → IsCore c → MayTake c a → module_view i.wasm ≡ module_view c.instance.wasm → IsOver (module_view c.instance.wasm) i.parts i.memory n
    → Answered a c.machine n (changes c.instance i) → IsCore (with_both c i n)
core_answered c i n a h fits fixed over t = record {
  fixed = fixed ∙ h.fixed;
  over = subst (λ (V : View ModuleParts). IsOver V i.parts i.memory n) h.fixed over;
  live = live_answered c.checked.now c.instance.memory c.phase a c.machine n (changes c.instance i) h.live fits t;
  start = h.start;
  entry = h.entry;
  own = h.own;
}
