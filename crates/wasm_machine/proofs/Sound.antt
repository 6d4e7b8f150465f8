-- A machine that is sound over a typed view: its next step is there and within its room, and what is told of it leaves the machine sound.
use Rattle.std.proofs.Common.{arith, ◌≡◌, ◌+◌, ℕ, List, [], ◌∷◌, length, Option, Some, None, true, refl, ap, subst}
use Rattle.std.specs.Prelude.{IfSome, reverse, is_some}
use Rattle.wasm_form.specs.declared.types.ValType.{ValType}
use Rattle.wasm_form.specs.declared.types.ValType.TheVariants.{I32}
use Rattle.wasm_form.specs.declared.types.FuncType.{FuncType}
use Rattle.wasm_form.specs.declared.runtime.LoaderCall.{LoaderCall}
use Rattle.wasm_form.specs.declared.runtime.LoaderCall.TheVariants.{Dlopen, Dlsym, Dlclose, Dlerror}
use Rattle.wasm_form.specs.declared.runtime.Ref.{Ref}
use Rattle.wasm_form.specs.declared.runtime.Ref.TheVariants.{Own, Loader, Host, Stub}
use Rattle.wasm_form.specs.declared.runtime.Value.{Value}
use Rattle.spec_safety.specs.spec_runs.Systems.{only_if}
use Rattle.spec_safety.specs.spec_binary.Options.{◌>>=◌}
use Rattle.spec_safety.specs.spec_binary.Indices.{nullary}
use Rattle.spec_safety.specs.spec_runtime.Memories.{MemoryInstance}
use Rattle.spec_safety.specs.spec_execution.Values.{take_values}
use Rattle.spec_safety.specs.spec_execution.Activations.{Level, Activation}
use Rattle.spec_safety.specs.spec_execution.Views.{View, type_of, loader_type}
use Rattle.spec_safety.specs.spec_execution.Ranges.{HoldsAll, AreInRange}
use Rattle.spec_safety.specs.spec_execution.Runs.{is_running, Frame, Active, Marked, Next, Goes, Asks, Loads, Ends, Traps, arguments, Caller, call}
use Rattle.spec_safety.specs.ValueTypes.{IsMemory}
use Rattle.spec_safety.specs.TypedActivations.{count_below}
use Rattle.spec_safety.specs.TypedViews.{HoldTypes, IsSoundView}
use Rattle.spec_safety.specs.TypedFrames.{Stand, IsSoundNext}
use Rattle.spec_safety.proofs.Rooms.{top_within}
use Rattle.spec_safety.proofs.ModuleSteps.{nullary_over}
use Rattle.spec_safety.proofs.SoundRanges.{rest_in, units_in, types_there, functions_there}
use Rattle.spec_safety.proofs.SoundSteps.{code_step, call_ok}
use Rattle.wasm_step.specs.Tops.{below_count}
use Rattle.wasm_step.specs.Moves.{Changes, AreSame}
use Rattle.wasm_step.specs.Named.{NamesAreThere}
use Rattle.wasm_machine.specs.Stacks.{empty_stack}
use Rattle.wasm_machine.specs.Machines.{MachineState, RoomsAre, IsAsked, HaveLocals, on_tag, StackFits, IsOver, IsEnd, StandsAt, Told, StaysWithin, is_outside, next_of}
use Rattle.wasm_machine.specs.declared.machine.Standing.{Standing}
use Rattle.wasm_machine.specs.declared.machine.Standing.TheVariants as standing
use Rattle.wasm_machine.specs.declared.event.Event.{Event}
use Rattle.wasm_machine.specs.declared.event.Event.TheVariants as event
use Rattle.wasm_machine.proofs.Locals.{NextHas, room_is, call_has, next_has}

-- what a step comes to is there, and sound
abbrev pub NextIsSound : {Units : Type 0} → View Units → Option (Next Units ℕ) → Type 0
NextIsSound V next = IsSoundNext V V.names (HoldTypes V V.names) on_tag next × IfSome next (NextHas V)

below_same : (ls : List Level) → below_count ls ≡ count_below ls
below_same [] = refl
below_same (l ∷ ls) = ap (λ n. length l.below + n) (below_same ls)

one_i32 : (which : LoaderCall) → reverse (loader_type which).results ≡ I32 ∷ []
one_i32 Dlopen = refl
one_i32 Dlsym = refl
one_i32 Dlclose = refl
one_i32 Dlerror = refl

module _ {Units : Type 0} (V : View Units) where
  -- ---- what is there

  pub names_there : IsSoundView V → NamesAreThere V
  names_there h = record {
    types = types_there V V.names (HoldTypes V V.names) h.typed h.counted;
    functions = functions_there V V.names (HoldTypes V V.names) h.typed h.counted;
  }

  pub all_held : (us : Units) → IsSoundView V → HoldTypes V V.names us → HoldsAll V us
  all_held us h holds = units_in V V.names (HoldTypes V V.names) h.typed h.counted us holds

  -- the numbers in the code on top are in range
  pub code_in_range : (a : Activation) (frames : List (Frame ℕ)) (given : List ValType) → IsSoundView V → Stand V V.names on_tag (Active a ∷ frames) given → AreInRange (V.counts a.unit) a.rest
  code_in_range a frames given h st = rest_in V V.names (HoldTypes V V.names) h.typed h.counted st.0 [] given a st.1

  -- ---- the next step

  pub code_sound : (us : Units) (memory : MemoryInstance) (a : Activation) (frames : List (Frame ℕ)) → IsSoundView V → HoldTypes V V.names us → IsMemory memory → Stand V V.names on_tag (Active a ∷ frames) [] → HaveLocals V (Active a ∷ frames)
      → NextIsSound V (next_of V us memory (Active a ∷ frames))
  code_sound us memory a frames h holds is st locals =
      (code_step V V.names (HoldTypes V V.names) on_tag h.typed us memory a frames holds is st, next_has V us memory (Active a ∷ frames) locals)

  pub next_sound : (us : Units) (memory : MemoryInstance) (frames : List (Frame ℕ)) → IsSoundView V → HoldTypes V V.names us → IsMemory memory → is_running frames ≡ true → Stand V V.names on_tag frames [] → HaveLocals V frames
      → NextIsSound V (next_of V us memory frames)
  next_sound us memory [] h holds is run st locals = absurd cc
  next_sound us memory (Marked tag ∷ frames) h holds is run st locals = absurd cc
  next_sound us memory (Active a ∷ frames) h holds is run st locals = code_sound us memory a frames h holds is st locals

  -- a function without parameters that is called over a call stack
  pub called_sound : (us : Units) (memory : MemoryInstance) (frames : List (Frame ℕ)) (r : Ref) → IsSoundView V → HoldTypes V V.names us → IsMemory memory → Stand V V.names on_tag frames [] → HaveLocals V frames → type_of V r ≡ Some nullary
      → NextIsSound V (call V us memory (λ _. frames) [] r)
  called_sound us memory frames r h holds is st locals typed =
      (call_ok V V.names (HoldTypes V V.names) on_tag h.typed us memory holds is (λ _. frames) [] [] r nullary typed tt (λ ws k. st) (λ ws. nullary_over frames), call_has V us memory (λ _. frames) [] (λ vs. locals) r)

  -- it stays within the room
  pub stays_within : (next : Option (Next Units ℕ)) → NextIsSound V next → StaysWithin V next
  stays_within None h = tt
  stays_within (Some (Goes us memory [])) h = tt
  stays_within (Some (Goes us memory (Active a ∷ frames))) h =
      let w = top_within V V.names on_tag a frames [] h.0.3 in
      let b = below_same a.levels in
      let r = room_is V a.unit a.func in
      let l = h.1.0 in
      (omega arith, omega arith)
  stays_within (Some (Goes us memory (Marked tag ∷ frames))) h = tt
  stays_within (Some (Asks entry args frames)) h = tt
  stays_within (Some (Loads which args frames)) h = tt
  stays_within (Some Ends) h = tt
  stays_within (Some (Traps why)) h = tt

  -- the arguments of a function outside are there
  module _ (us : Units) (memory : MemoryInstance) (caller : Caller ℕ) (values : List Value) where
    taken_some : {A : Type 0} (o : Option A) (f : A → Option (Next Units ℕ)) → IsSoundNext V V.names (HoldTypes V V.names) on_tag (o >>= f) → is_some o ≡ true
    taken_some None f h = absurd h
    taken_some (Some a) f h = refl

    taken : (ty : FuncType) (o : Option FuncType) (f : FuncType → List Value × List Value → Option (Next Units ℕ)) → o ≡ Some ty
        → IsSoundNext V V.names (HoldTypes V V.names) on_tag (o >>= λ t. take_values (reverse t.params) values >>= f t) → is_some (take_values (reverse ty.params) values) ≡ true
    taken ty o f e h = taken_some (take_values (reverse ty.params) values) (f ty) (rw e at h)

    pub arguments_there : (r : Ref) (ty : FuncType) → is_outside r ≡ true → type_of V r ≡ Some ty → IsSoundNext V V.names (HoldTypes V V.names) on_tag (call V us memory caller values r) → is_some (take_values (reverse ty.params) values) ≡ true
    arguments_there (Own unit f) ty out e h = absurd cc
    arguments_there (Host entry) ty out e h = taken ty (V.host entry) (λ t p. Some (Asks entry (arguments t p.0) (caller p.1))) e h
    arguments_there (Loader which) ty out e h = taken ty (only_if V.has_loader (loader_type which)) (λ t p. Some (Loads which (arguments t p.0) (caller p.1))) e h
    arguments_there (Stub unit f) ty out e h = absurd cc

  -- ---- what is told

  -- the machine stands somewhere
  stands_fit : (m : MachineState) (frames : List (Frame ℕ)) (s : Standing) → StandsAt m frames s → StackFits V s frames → HaveLocals V frames
      → StackFits V m.standing m.stack.frames × HaveLocals V m.stack.frames
  stands_fit m frames s at fit locals = (rw (at.frames_are, at.standing_is) fit, rw at.frames_are locals)

  -- what is sound of the units, the memory and the call stack
  abbrev IsLeft : MachineState → Units → MemoryInstance → Type 0
  IsLeft m us memory = HoldTypes V V.names us × IsMemory memory × (StackFits V m.standing m.stack.frames × HaveLocals V m.stack.frames)

  module _ (old new : MachineState) (c : Changes Units) (o : IsOver V c.old_units c.old_memory old) where
    units_kept : AreSame c → HoldTypes V V.names c.new_units
    units_kept same = rw same.0 o.units

    memory_kept : AreSame c → IsMemory c.new_memory
    memory_kept same = rw same.1 o.memory

    told_left : (e : Event) (next : Option (Next Units ℕ)) → NextIsSound V next → Told V e next old new c → IsLeft new c.new_units c.new_memory
    told_left event.Moved (Some (Goes us memory frames)) n t = (rw t.2 n.0.0, rw t.3 n.0.1, stands_fit new frames standing.Moving t.0 n.0.3 n.1)
    told_left (event.Waits asked) (Some (Asks entry args frames)) n t =
        (units_kept t.4, memory_kept t.4, stands_fit new frames (standing.Asking entry t.0) t.1 (n.0.0, n.0.1, n.0.3, n.0.4) n.1)
    told_left (event.Loader which first second) (Some (Loads called args frames)) n t =
        (units_kept t.4, memory_kept t.4, stands_fit new frames standing.Loading t.0 (subst (Stand V V.names on_tag frames) (one_i32 called) n.0.2) n.1)
    told_left event.Returned (Some Ends) n t = (units_kept t.1, memory_kept t.1, stands_fit new [] standing.Returned t.0 tt tt)
    told_left (event.Trapped why) (Some (Traps cause)) n t = (units_kept t.2, memory_kept t.2, stands_fit new [] (standing.Trapped why) t.0 tt tt)
    told_left event.Deep (Some (Goes us memory frames)) n t = (units_kept t.2, memory_kept t.2, (rw t.1 o.stack, rw t.1 o.locals))
    told_left e None n t = absurd n.0
    told_left e next n t = absurd t

    pub told_over : (e : Event) (next : Option (Next Units ℕ)) → NextIsSound V next → Told V e next old new c → RoomsAre V new.stack → IsAsked V new.standing → IsOver V c.new_units c.new_memory new
    told_over e next n t rooms asked =
        let l = told_left e next n t in
        record { view = o.view; units = l.0; memory = l.1; stack = l.2.0; locals = l.2.1; rooms = rooms; asked = asked }

    -- nothing has changed
    pub same_over : new ≡ old → AreSame c → IsOver V c.new_units c.new_memory new
    same_over e same = rw (e, same.0, same.1) o

    asked_at_end : (s : Standing) → IsEnd s → IsAsked V s
    asked_at_end standing.Moving h = tt
    asked_at_end (standing.Asking entry count) h = absurd h
    asked_at_end standing.Loading h = tt
    asked_at_end standing.Returned h = tt
    asked_at_end (standing.Trapped why) h = tt
    asked_at_end (standing.Exited code) h = tt
    asked_at_end standing.Lost h = tt

    fits_at_end : (s : Standing) → IsEnd s → StackFits V s []
    fits_at_end standing.Moving h = absurd h
    fits_at_end (standing.Asking entry count) h = absurd h
    fits_at_end standing.Loading h = absurd h
    fits_at_end standing.Returned h = tt
    fits_at_end (standing.Trapped why) h = tt
    fits_at_end (standing.Exited code) h = tt
    fits_at_end standing.Lost h = tt

    -- an end stands over the view
    pub ended_over : (s : Standing) → AreSame c → IsEnd s → new ≡ record { stack = empty_stack; standing = s } → IsOver V c.new_units c.new_memory new
    ended_over s same e q =
        let n : IsOver V c.old_units c.old_memory (record { stack = empty_stack; standing = s }) = record {
          view = o.view;
          units = o.units;
          memory = o.memory;
          stack = fits_at_end s e;
          locals = tt;
          rooms = refl;
          asked = asked_at_end s e;
        } in
        rw (q, same.0, same.1) n
