-- A call of the start function or of the entry is the next step of the run.
use Rattle.std.proofs.Common.{◌≡◌, ◌≢◌, ℕ, ◌<◌, List, [], ◌∷◌, Option, Some, None, refl, ap, sym, ◌∙◌, subst, Bool, true, false}
use Rattle.std.specs.Prelude.{IfSome, nat_lt, is_some, if◌then◌else◌}
use Rattle.std.specs.Option.{option_map}
use Rattle.std.proofs.lemmas.Bool.{le-ltb, ltb-true}
use Rattle.std.proofs.lemmas.Option.{same_Some}
use Rattle.wasm_form.specs.declared.types.FuncType.{FuncType}
use Rattle.wasm_form.specs.declared.module.Module.{Module}
use Rattle.wasm_form.specs.declared.runtime.Ref.{Ref}
use Rattle.wasm_form.specs.declared.runtime.Ref.TheVariants.{Own, Host}
use Rattle.wasm_form.specs.declared.runtime.Value.{Value}
use Rattle.spec_safety.specs.spec_runs.Systems.{Moving}
use Rattle.spec_safety.specs.spec_binary.Options.{◌>>=◌}
use Rattle.spec_safety.specs.spec_binary.Indices.{nullary, function_type}
use Rattle.spec_safety.specs.spec_runtime.Memories.{MemoryInstance}
use Rattle.spec_safety.specs.spec_execution.Views.{View, type_of}
use Rattle.spec_safety.specs.TypedViews.{IsSoundView}
use Rattle.spec_safety.specs.spec_execution.Runs.{Frame, Active, Marked, Next, Goes, Asks, Loads, Ends, Traps, call}
use Rattle.spec_safety.specs.spec_execution.Instances.{ModuleParts, function_named, module_target, module_view}
use Rattle.spec_safety.specs.spec_binary.IndexSpaces.{imported_count}
use Rattle.spec_safety.specs.spec_execution.OneModule.{Starting, ModuleState, module_next}
use Rattle.wasm_step.specs.Moves.{Changes, AreSame}
use Rattle.wasm_machine.specs.Machines.{MachineState, IsOver, IsClear, IsStart, Told}
use Rattle.wasm_machine.specs.declared.machine.Standing.{Standing}
use Rattle.wasm_machine.specs.declared.machine.Standing.TheVariants as standing
use Rattle.wasm_machine.specs.declared.event.Event.{Event}
use Rattle.wasm_machine.specs.declared.event.Event.TheVariants as event
use Rattle.wasm_single.specs.declared.bare_run.Core.{Core}
use Rattle.wasm_single.specs.declared.bare_run.Phase.{Phase}
use Rattle.wasm_single.specs.declared.bare_run.Phase.TheVariants as phase
use Rattle.wasm_single.specs.Cores.{seen, starting_of, stack_in, stack_of, IsInPhase, IsLive, IsStartable, IsCore, IsState, StandsAs, Steps, Calls, is_begun}
use Rattle.wasm_machine.specs.Marks.{AreMarks, KeepsUnder}
use Rattle.wasm_machine.proofs.Marked.{marked_call}
use Rattle.wasm_machine.proofs.Under.{own_under, call_under}
use Rattle.wasm_single.proofs.Seen.{seen_next}
use Rattle.wasm_single.proofs.Telling.{marks_in, under_phase, steps_told, deep_told}

-- ---- a function of the module

module _ (m : Module) (f : ℕ) (ty : FuncType) (typed : function_type m f ≡ Some ty) where
  -- the number is one of the module's
  number_there : IsSoundView (module_view m) → f < ((module_view m).counts 0).functions
  number_there view = ltb-true f ((module_view m).counts 0).functions (sym ((view.counted 0).functions f) ∙ ap is_some typed)

  target_is : module_target m f ≡ Some (function_named m f)
  target_is = rw typed refl

  type_is : IsSoundView (module_view m) → type_of (module_view m) (function_named m f) ≡ Some ty
  type_is view =
      let r = view.typed.functions 0 f ty typed in
      subst (λ (x : Ref). type_of (module_view m) x ≡ Some ty) (same_Some r.0 (function_named m f) (sym r.1 ∙ target_is)) r.2

-- ---- what is so where a call may begin

pub live_moving : (c : Core) → IsCore c → c.machine.standing ≡ standing.Moving → IsInPhase c.phase c.machine.stack.frames
live_moving c h moving = subst (λ (st : Standing). IsLive st c.machine.stack.frames c.phase) moving h.live

pub state_moving : (c : Core) (s : ModuleState) → IsState c s → c.machine.standing ≡ standing.Moving → (s.status ≡ Moving) × (s.stack ≡ stack_of c)
state_moving c s h moving = subst (λ (st : Standing). StandsAs c s st) moving h.standing

-- a mark on top is alone
alone : (frames : List (Frame ℕ)) → AreMarks 1 frames → IsClear frames → (tag : ℕ) × (frames ≡ Marked tag ∷ [])
alone [] h clear = absurd cc
alone (Active a ∷ frames) h clear = absurd clear
alone (Marked tag ∷ frames) h clear = (tag, ap (λ (fs : List (Frame ℕ)). Marked tag ∷ fs) h.1)

module _ (c : Core) (h : IsCore c) (moving : c.machine.standing ≡ standing.Moving) (clear : IsClear c.machine.stack.frames) where
  only_mark : c.phase ≡ phase.Marked → (tag : ℕ) × (c.machine.stack.frames ≡ Marked tag ∷ [])
  only_mark e = alone c.machine.stack.frames (subst (λ (p : Phase). IsInPhase p c.machine.stack.frames) e (live_moving c h moving)) clear

  stack_marked : c.phase ≡ phase.Marked → stack_of c ≡ Marked (starting_of c) ∷ []
  stack_marked e = ap (λ (p : Phase). stack_in p (starting_of c) c.machine.stack.frames) e ∙ ap (λ (fs : List (Frame ℕ)). seen (starting_of c) fs) (only_mark e).1

-- ---- what the machine is asked and tells

pub over_view : (c : Core) → IsCore c → IsOver (module_view c.instance.wasm) c.instance.parts c.instance.memory c.machine
over_view c h = subst (λ (V : View ModuleParts). IsOver V c.instance.parts c.instance.memory c.machine) (sym h.fixed) h.over

pub may_begin : (m : MachineState) → m.standing ≡ standing.Moving → IsClear m.stack.frames → IsStart m
may_begin m moving clear = subst (λ (st : Standing). IsStart (record { stack = m.stack; standing = st })) (sym moving) clear

module _ (c : Core) (h : IsCore c) (f : ℕ) (typed : IsStartable c.checked.now f) where
  pub in_range : f < ((module_view c.instance.wasm).counts 0).functions
  in_range = subst (λ (V : View ModuleParts). f < (V.counts 0).functions) (sym h.fixed) (number_there c.checked.now f nullary typed h.over.view)

  module _ (r : Ref) (is : Some r ≡ (module_view c.instance.wasm).target 0 f) where
    named : r ≡ function_named c.checked.now f
    named =
        let found : Some r ≡ module_target c.checked.now f = subst (λ (V : View ModuleParts). Some r ≡ V.target 0 f) h.fixed is in
        same_Some r (function_named c.checked.now f) (found ∙ target_is c.checked.now f nullary typed)

    pub named_nullary : type_of (module_view c.instance.wasm) r ≡ Some nullary
    named_nullary =
        subst (λ (V : View ModuleParts). type_of V r ≡ Some nullary) (sym h.fixed)
        (subst (λ (x : Ref). type_of (module_view c.checked.now) x ≡ Some nullary) (sym named) (type_is c.checked.now f nullary typed h.over.view))

    pub told_calls : (e : Event) (n : MachineState)
        → Told (module_view c.instance.wasm) e (call (module_view c.instance.wasm) c.instance.parts c.instance.memory (λ _. c.machine.stack.frames) [] r) c.machine n
        (record { old_units = c.instance.parts; old_memory = c.instance.memory; new_units = c.instance.parts; new_memory = c.instance.memory })
        → Calls f c e n
    told_calls e n t =
        subst (λ (x : Ref). Told (module_view c.checked.now) e (call (module_view c.checked.now) c.instance.parts c.instance.memory (λ _. c.machine.stack.frames) [] x) c.machine n (record { old_units = c.instance.parts; old_memory = c.instance.memory; new_units = c.instance.parts; new_memory = c.instance.memory })) named
        (subst (λ (V : View ModuleParts). Told V e (call V c.instance.parts c.instance.memory (λ _. c.machine.stack.frames) [] r) c.machine n (record { old_units = c.instance.parts; old_memory = c.instance.memory; new_units = c.instance.parts; new_memory = c.instance.memory })) h.fixed t)

-- ---- what a call of it comes to

module _ (m : Module) (s : ModuleState) (f : ℕ) (typed : function_type m f ≡ Some nullary) where
  called_by : (caller : List Value → List (Frame Starting)) → ((module_view m).target 0 f >>= call (module_view m) s.units s.memory caller []) ≡ call (module_view m) s.units s.memory caller [] (function_named m f)
  called_by caller = ap (λ (r : Option Ref). r >>= call (module_view m) s.units s.memory caller []) (target_is m f nullary typed)

  start_comes : (entry tag : ℕ) → s.stack ≡ Marked (record { start = Some f; entry = entry }) ∷ []
      → module_next m s s.stack ≡ option_map (seen_next (record { start = None; entry = entry })) (call (module_view m) s.units s.memory (λ _. Marked tag ∷ []) [] (function_named m f))
  start_comes entry tag e =
      ap (λ (fs : List (Frame Starting)). module_next m s fs) e ∙ called_by (λ _. Marked (record { start = None; entry = entry }) ∷ [])
      ∙ marked_call (module_view m) s.units s.memory (λ tag. record { start = None; entry = entry }) (λ _. Marked tag ∷ []) [] (function_named m f)

  entry_comes : (starting : Starting) → s.stack ≡ Marked (record { start = None; entry = f }) ∷ []
      → module_next m s s.stack ≡ option_map (seen_next starting) (call (module_view m) s.units s.memory (λ _. []) [] (function_named m f))
  entry_comes starting e =
      ap (λ (fs : List (Frame Starting)). module_next m s fs) e ∙ called_by (λ _. [])
      ∙ marked_call (module_view m) s.units s.memory (λ tag. starting) (λ _. []) [] (function_named m f)

-- ---- a call that is begun, and one that is too deep

pub is_deep_event : (e : Event) → is_begun e ≡ false → e ≡ event.Deep
is_deep_event event.Deep q = refl
is_deep_event e q = absurd cc

pub deep_same : {Units : Type 0} (V : View Units) (next : Option (Next Units ℕ)) (old new : MachineState) (c : Changes Units) → Told V event.Deep next old new c → (new ≡ old) × AreSame c
deep_same V (Some (Goes us memory frames)) old new c t = (t.1, t.2)
deep_same V (Some (Asks entry args frames)) old new c t = absurd t
deep_same V (Some (Loads which args frames)) old new c t = absurd t
deep_same V (Some Ends) old new c t = absurd t
deep_same V (Some (Traps why)) old new c t = absurd t
deep_same V None old new c t = absurd t

-- the call of a function over the call stack of the machine
abbrev next_called : Core → ℕ → Option (Next ModuleParts ℕ)
next_called c f = call (module_view c.checked.now) c.instance.parts c.instance.memory (λ _. c.machine.stack.frames) [] (function_named c.checked.now f)

-- the run's next step is this call
abbrev CallComes : Core → ModuleState → ℕ → Starting → Type 0
CallComes c s f starting = module_next c.checked.now s s.stack ≡ option_map (seen_next starting) (next_called c f)

module _ (c : Core) (n : MachineState) (e : Event) (f : ℕ) (h : IsCore c) (moving : c.machine.standing ≡ standing.Moving) (t : Calls f c e n) where
  module _ (deep : is_begun e ≡ false) where
    same_machine : n ≡ c.machine
    same_machine =
        (
        deep_same (module_view c.checked.now) (next_called c f) c.machine n
        (record { old_units = c.instance.parts; old_memory = c.instance.memory; new_units = c.instance.parts; new_memory = c.instance.memory })
        (subst (λ (x : Event). Calls f c x n) (is_deep_event e deep) t)
        ).0

    deep_steps : (s : ModuleState) (starting : Starting) → IsState c s → CallComes c s f starting → Steps e s (record c { machine = n })
    deep_steps s starting k comes =
        subst (λ (x : Event). Steps x s (record c { machine = n })) (sym (is_deep_event e deep)) (
        deep_told (record c { machine = n }) s starting (next_called c f) c.machine
        (record { old_units = c.instance.parts; old_memory = c.instance.memory; new_units = c.instance.parts; new_memory = c.instance.memory })
        comes (subst (λ (x : Event). Calls f c x n) (is_deep_event e deep) t) (ap (λ (x : MachineState). x.standing) same_machine ∙ moving)
        (subst (λ (x : MachineState). IsState (record c { machine = x }) s) (sym same_machine) k)
        )

  module _ (over : IsOver (module_view c.checked.now) c.instance.parts c.instance.memory n) (begun : is_begun e ≡ true) (start : Option ℕ) (p : Phase) (called : p ≢ phase.Opened) (under : IfSome (next_called c f) (KeepsUnder (module_view c.checked.now) (marks_in p))) where
    begun_steps : (s : ModuleState) → IsState c s → CallComes c s f (record { start = start; entry = c.entry }) → Steps e s (record c { machine = n; start = start; phase = p })
    begun_steps s k comes =
        steps_told (record c { machine = n; start = start; phase = p }) s c.machine c.instance.parts c.instance.memory e (next_called c f) begun called k.units k.memory comes t under over.asked

-- ---- the call of the start function

abbrev called_over : Core → ℕ → ModuleParts → MemoryInstance → List (Frame ℕ) → Option (Next ModuleParts ℕ)
called_over c f us memory frames = call (module_view c.checked.now) us memory (λ _. frames) [] (function_named c.checked.now f)

-- the call over the state of the run is the one over the machine and its instance
over_machine : (c : Core) (s : ModuleState) (f : ℕ) (starting : Starting) (frames : List (Frame ℕ)) → s.units ≡ c.instance.parts → s.memory ≡ c.instance.memory → c.machine.stack.frames ≡ frames
    → module_next c.checked.now s s.stack ≡ option_map (seen_next starting) (called_over c f s.units s.memory frames) → CallComes c s f starting
over_machine c s f starting frames units memory there comes =
    comes ∙ ap (λ (us : ModuleParts). option_map (seen_next starting) (called_over c f us s.memory frames)) units
    ∙ ap (λ (space : MemoryInstance). option_map (seen_next starting) (called_over c f c.instance.parts space frames)) memory
    ∙ ap (λ (fs : List (Frame ℕ)). option_map (seen_next starting) (called_over c f c.instance.parts c.instance.memory fs)) (sym there)

module _ (c new : Core) (e : Event) (f : ℕ) (h : IsCore c) (moving : c.machine.standing ≡ standing.Moving) (clear : IsClear c.machine.stack.frames) (at : c.phase ≡ phase.Marked) (start : c.start ≡ Some f) (t : Calls f c e new.machine) (same : new ≡ record c { machine = new.machine }) where
  start_startable : IsStartable c.checked.now f
  start_startable = subst (λ (o : Option ℕ). IfSome o (IsStartable c.checked.now)) start h.start

  start_called : c.phase ≢ phase.Opened
  start_called q = absurd (let wrong : phase.Marked ≡ phase.Opened = sym at ∙ q in cc)

  start_stack : (s : ModuleState) → IsState c s → s.stack ≡ Marked (record { start = Some f; entry = c.entry }) ∷ []
  start_stack s k = (state_moving c s k moving).1 ∙ stack_marked c h moving clear at ∙ ap (λ (o : Option ℕ). Marked (record { start = o; entry = c.entry }) ∷ []) start

  start_next_is : (s : ModuleState) → IsState c s → CallComes c s f (record { start = None; entry = c.entry })
  start_next_is s k =
      let top = only_mark c h moving clear at in
      over_machine c s f (record { start = None; entry = c.entry }) (Marked top.0 ∷ []) k.units k.memory top.1
      (start_comes c.checked.now s f start_startable c.entry top.0 (start_stack s k))

  start_under : IfSome (next_called c f) (KeepsUnder (module_view c.checked.now) (marks_in c.phase))
  start_under =
      call_under (module_view c.checked.now) c.instance.parts c.instance.memory (marks_in c.phase) (λ _. c.machine.stack.frames) []
      (λ vs. under_phase c.phase c.machine.stack.frames start_called (live_moving c h moving)) (function_named c.checked.now f)

  pub start_deep_steps : is_begun e ≡ false → (s : ModuleState) → IsState c s → Steps e s new
  start_deep_steps deep s k =
      subst (λ (x : Core). Steps e s x) (sym same) (deep_steps c new.machine e f h moving t deep s (record { start = None; entry = c.entry }) k (start_next_is s k))

  module _ (over : IsOver (module_view c.checked.now) c.instance.parts c.instance.memory new.machine) (begun : is_begun e ≡ true) where
    pub start_steps : (s : ModuleState) → IsState c s → Steps e s (record new { start = None })
    start_steps s k = subst (λ (x : Core). Steps e s (record x { start = None })) (sym same) (begun_steps c new.machine e f h moving t over begun None c.phase start_called start_under s k (start_next_is s k))

-- ---- the call of the entry

module _ (c new : Core) (e : Event) (h : IsCore c) (moving : c.machine.standing ≡ standing.Moving) (at : c.phase ≡ phase.Opened) (start : c.start ≡ None) (t : Calls c.entry c e new.machine) (same : new ≡ record c { machine = new.machine }) where
  entry_empty : c.machine.stack.frames ≡ []
  entry_empty = subst (λ (p : Phase). IsInPhase p c.machine.stack.frames) at (live_moving c h moving)

  entry_stack : (s : ModuleState) → IsState c s → s.stack ≡ Marked (record { start = None; entry = c.entry }) ∷ []
  entry_stack s k =
      (state_moving c s k moving).1 ∙ ap (λ (p : Phase). stack_in p (starting_of c) c.machine.stack.frames) at
      ∙ ap (λ (o : Option ℕ). Marked (record { start = o; entry = c.entry }) ∷ []) start

  entry_next_is : (s : ModuleState) (starting : Starting) → IsState c s → CallComes c s c.entry starting
  entry_next_is s starting k =
      over_machine c s c.entry starting [] k.units k.memory entry_empty
      (entry_comes c.checked.now s c.entry h.entry starting (entry_stack s k))

  entry_under : IfSome (next_called c c.entry) (KeepsUnder (module_view c.checked.now) 0)
  entry_under =
      let own : nat_lt c.entry (imported_count c.checked.now) ≡ false = le-ltb c.entry (imported_count c.checked.now) h.own in
      let free : AreMarks 0 c.machine.stack.frames = subst (λ (fs : List (Frame ℕ)). AreMarks 0 fs) (sym entry_empty) refl in
      subst (λ (b : Bool). IfSome (call (module_view c.checked.now) c.instance.parts c.instance.memory (λ _. c.machine.stack.frames) [] (if b then Host c.entry else Own 0 c.entry)) (KeepsUnder (module_view c.checked.now) 0)) (sym own)
      (own_under (module_view c.checked.now) c.instance.parts c.instance.memory 0 (λ _. c.machine.stack.frames) [] (λ vs. free) 0 c.entry)

  pub entry_deep_steps : is_begun e ≡ false → (s : ModuleState) → IsState c s → Steps e s new
  entry_deep_steps deep s k =
      subst (λ (x : Core). Steps e s x) (sym same) (deep_steps c new.machine e c.entry h moving t deep s (starting_of c) k (entry_next_is s (starting_of c) k))

  module _ (over : IsOver (module_view c.checked.now) c.instance.parts c.instance.memory new.machine) (begun : is_begun e ≡ true) where
    pub entry_steps : (s : ModuleState) → IsState c s → Steps e s (record new { phase = phase.Entered })
    entry_steps s k =
        subst (λ (x : Core). Steps e s (record x { phase = phase.Entered })) (sym same)
        (begun_steps c new.machine e c.entry h moving t over begun c.start phase.Entered (λ q. absurd cc) entry_under s k (entry_next_is s (starting_of c) k))
