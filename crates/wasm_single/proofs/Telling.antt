-- What the machine tells of a step is told of the step of the run.
use Rattle.std.proofs.Common.{◌≡◌, ◌≢◌, ℕ, List, [], ◌∷◌, Option, Some, None, refl, ap, sym, ◌∙◌, subst, true, false}
use Rattle.std.specs.Prelude.{IfSome}
use Rattle.std.specs.Option.{option_map}
use Rattle.std.proofs.lemmas.Option.{same_Some}
use Rattle.wasm_form.specs.declared.types.FuncType.{FuncType}
use Rattle.wasm_form.specs.declared.runtime.Trap.{Trap}
use Rattle.wasm_form.specs.declared.module.Module.{Module}
use Rattle.wasm_form.specs.declared.runtime.Asked.{Asked}
use Rattle.spec_safety.specs.spec_runs.Systems.{Status, Moving, Waits, Returned, Trapped}
use Rattle.spec_safety.specs.spec_binary.Options.{◌>>=◌}
use Rattle.spec_safety.specs.spec_runtime.Names.{HostName}
use Rattle.spec_safety.specs.spec_runtime.Hosts.{HostCall}
use Rattle.spec_safety.specs.spec_runtime.Memories.{MemoryInstance}
use Rattle.spec_safety.specs.spec_execution.Views.{View}
use Rattle.spec_safety.specs.spec_execution.Limits.{passes_limit, is_deep}
use Rattle.spec_safety.specs.spec_execution.Runs.{Frame, Next, Goes, Asks, Loads, Ends, Traps, became, stands}
use Rattle.spec_safety.specs.spec_execution.Instances.{ModuleParts, module_view, module_hosts, host_type}
use Rattle.spec_safety.specs.spec_execution.OneModule.{module_too_deep, Starting, ModuleState, module_next, module_step}
use Rattle.wasm_step.specs.Moves.{Changes}
use Rattle.wasm_machine.specs.Machines.{MachineState, LeavesCode, IsAsked, Told, StandsAt}
use Rattle.wasm_machine.specs.declared.machine.Standing.{Standing}
use Rattle.wasm_machine.specs.declared.machine.Standing.TheVariants as standing
use Rattle.wasm_machine.specs.declared.event.Event.{Event}
use Rattle.wasm_machine.specs.declared.event.Event.TheVariants as event
use Rattle.wasm_single.specs.declared.bare_run.Core.{Core}
use Rattle.wasm_single.specs.declared.bare_run.Phase.{Phase}
use Rattle.wasm_single.specs.declared.bare_run.Phase.TheVariants as phase
use Rattle.wasm_single.specs.Cores.{seen, starting_of, stack_in, stack_of, IsInPhase, IsLive, IsState, StandsAs, Steps, is_begun}
use Rattle.wasm_machine.specs.Marks.{AreMarks, IsStack, KeepsUnder}
use Rattle.wasm_machine.proofs.Marked.{marked_deep}
use Rattle.wasm_single.proofs.Seen.{seen_next}

named : (h : Option HostName) (ty : FuncType) → host_type h ≡ Some ty → (x : HostName) × (h ≡ Some x)
named None ty e = absurd cc
named (Some x) ty e = (x, refl)

-- ---- phases

-- the marks under the activations
abbrev pub marks_in : Phase → ℕ
marks_in phase.Opened = 0
marks_in phase.Marked = 1
marks_in phase.Entered = 0

in_phase : (p : Phase) (frames : List (Frame ℕ)) → p ≢ phase.Opened → IsStack (marks_in p) frames → IsInPhase p frames
in_phase phase.Opened frames called h = absurd (called refl)
in_phase phase.Marked frames called h = h.marks
in_phase phase.Entered frames called h = (h.some, h.marks)

pub under_phase : (p : Phase) (frames : List (Frame ℕ)) → p ≢ phase.Opened → IsInPhase p frames → IsStack (marks_in p) frames
under_phase phase.Opened frames called h = absurd (called refl)
under_phase phase.Marked frames called h = record { some = go frames h; marks = h }
  where
    go : (fs : List (Frame ℕ)) → AreMarks 1 fs → fs ≢ []
    go [] h = absurd cc
    go (f ∷ fs) h = λ e. cc
under_phase phase.Entered frames called h = record { some = h.0; marks = h.1 }

pub stack_called : (p : Phase) (starting : Starting) (frames : List (Frame ℕ)) → p ≢ phase.Opened → stack_in p starting frames ≡ seen starting frames
stack_called phase.Opened starting frames called = absurd (called refl)
stack_called phase.Marked starting frames called = refl
stack_called phase.Entered starting frames called = refl

-- ---- the state after a step

module _ (new : Core) (s : ModuleState) where
  made : (n : Next ModuleParts Starting) → module_next new.checked.now s s.stack ≡ Some n → module_step new.checked.now s ≡ became (module_hosts new.checked.now) s n
  made n e = ap (λ (o : Option (Next ModuleParts Starting)). o >>= became (module_hosts new.checked.now) s) e

  depth : (n : Next ModuleParts Starting) → module_next new.checked.now s s.stack ≡ Some n → module_too_deep new.checked.now s ≡ passes_limit (module_view new.checked.now) (Some n)
  depth n e = ap (λ (o : Option (Next ModuleParts Starting)). passes_limit (module_view new.checked.now) o) e

  seen_stack : (frames : List (Frame ℕ)) → new.phase ≢ phase.Opened → new.machine.stack.frames ≡ frames → seen (starting_of new) frames ≡ stack_of new
  seen_stack frames called e = ap (λ (fs : List (Frame ℕ)). seen (starting_of new) fs) (sym e) ∙ sym (stack_called new.phase (starting_of new) new.machine.stack.frames called)

  stays_at : (t : ModuleState) (st : Standing) → t.units ≡ new.instance.parts → t.memory ≡ new.instance.memory → new.machine.standing ≡ st → StandsAs new t st → IsState new t
  stays_at t st units memory at h = record { units = units; memory = memory; standing = subst (λ (x : Standing). StandsAs new t x) (sym at) h }

  module _ (called : new.phase ≢ phase.Opened) where
    went : (us : ModuleParts) (memory : MemoryInstance) (frames : List (Frame ℕ)) → module_next new.checked.now s s.stack ≡ Some (Goes us memory (seen (starting_of new) frames))
        → StandsAt new.machine frames standing.Moving → is_deep (module_view new.checked.now) frames ≡ false → new.instance.parts ≡ us → new.instance.memory ≡ memory → Steps event.Moved s new
    went us memory frames e at light units space = (
      depth _ e ∙ marked_deep (module_view new.checked.now) (λ tag. starting_of new) frames ∙ light,
      (
        record { units = us; memory = memory; stack = seen (starting_of new) frames; status = Moving },
        made _ e,
        tt,
        stays_at _ standing.Moving (sym units) (sym space) at.standing_is (refl, seen_stack frames called at.frames_are),
      ),
    )

    asked_of : (h : HostName) (a : Asked) (entry : ℕ) (args : List ℕ) (frames : List (Frame ℕ)) (count : ℕ) → module_hosts new.checked.now entry ≡ Some h → module_next new.checked.now s s.stack ≡ Some (Asks entry args (seen (starting_of new) frames))
        → StandsAt new.machine frames (standing.Asking entry count) → a.entry ≡ entry → a.args ≡ args → s.units ≡ new.instance.parts → s.memory ≡ new.instance.memory → Steps (event.Waits a) s new
    asked_of h a entry args frames count found e at which same units space = (
      depth _ e,
      (
        stands s (seen (starting_of new) frames) (Waits (record { host = h; args = args })),
        made _ e ∙ ap (λ (o : Option HostName). o >>= λ x. Some (stands s (seen (starting_of new) frames) (Waits (record { host = x; args = args })))) found,
        (ap (module_hosts new.checked.now) which ∙ found, same),
        stays_at _ (standing.Asking entry count) units space at.standing_is (record { host = h; args = args }, refl, found, seen_stack frames called at.frames_are),
      ),
    )

    asked : (a : Asked) (entry : ℕ) (args : List ℕ) (frames : List (Frame ℕ)) (count : ℕ) → module_next new.checked.now s s.stack ≡ Some (Asks entry args (seen (starting_of new) frames))
        → StandsAt new.machine frames (standing.Asking entry count) → IsAsked (module_view new.checked.now) new.machine.standing → a.entry ≡ entry → a.args ≡ args → s.units ≡ new.instance.parts → s.memory ≡ new.instance.memory
        → Steps (event.Waits a) s new
    asked a entry args frames count e at host which same units space =
        let there : IsAsked (module_view new.checked.now) (standing.Asking entry count) = subst (λ (x : Standing). IsAsked (module_view new.checked.now) x) at.standing_is host in
        let found = named (module_hosts new.checked.now entry) there.0 there.1 in
        asked_of found.0 a entry args frames count found.1 e at which same units space

  returned : module_next new.checked.now s s.stack ≡ Some Ends → new.machine.standing ≡ standing.Returned → s.units ≡ new.instance.parts → s.memory ≡ new.instance.memory → Steps event.Returned s new
  returned e at units space = (depth _ e, (stands s [] Returned, made _ e, tt, stays_at _ standing.Returned units space at refl))

  trapped : (why cause : Trap) → module_next new.checked.now s s.stack ≡ Some (Traps cause) → new.machine.standing ≡ standing.Trapped why → why ≡ cause → s.units ≡ new.instance.parts → s.memory ≡ new.instance.memory → Steps (event.Trapped why) s new
  trapped why cause e at same units space =
      let of : Trap → Status HostCall Trap = λ x. Trapped x in
      (depth _ e, (stands s [] (Trapped cause), made _ e, same, stays_at _ (standing.Trapped why) units space at (ap of (sym same))))

-- ---- what was told

-- what the run's next step comes to, over what the machine's does
abbrev Comes : Module → ModuleState → Starting → Option (Next ModuleParts ℕ) → Type 0
Comes m s starting next = module_next m s s.stack ≡ option_map (seen_next starting) next

-- a step that isn't made
pub deep_told : (new : Core) (s : ModuleState) (starting : Starting) (next : Option (Next ModuleParts ℕ)) (old : MachineState) (c : Changes ModuleParts)
    → Comes new.checked.now s starting next → Told (module_view new.checked.now) event.Deep next old new.machine c → new.machine.standing ≡ standing.Moving → IsState new s → Steps event.Deep s new
deep_told new s starting (Some (Goes us memory frames)) old c comes t moving stays =
    (depth new s _ comes ∙ marked_deep (module_view new.checked.now) (λ tag. starting) frames ∙ t.0, moving, stays)
deep_told new s starting (Some (Asks entry args frames)) old c comes t moving stays = absurd t
deep_told new s starting (Some (Loads which args frames)) old c comes t moving stays = absurd t
deep_told new s starting (Some Ends) old c comes t moving stays = absurd t
deep_told new s starting (Some (Traps why)) old c comes t moving stays = absurd t
deep_told new s starting None old c comes t moving stays = absurd t

-- a step that leaves the code isn't followed by one that the run makes by itself
pub leaves_moving : (m : Module) (s : ModuleState) (starting : Starting) (next : Option (Next ModuleParts ℕ)) → Comes m s starting next → LeavesCode next
    → (t : ModuleState) → module_step m s ≡ Some t → t.status ≡ Moving → ⊥
leaves_moving m s starting next comes leaves t step moving = go next leaves (sym (ap (λ (o : Option (Next ModuleParts Starting)). o >>= became (module_hosts m) s) comes) ∙ step)
  where
    status_of : (u : ModuleState) → Some u ≡ Some t → u.status ≡ Moving
    status_of u e = ap (λ (x : ModuleState). x.status) (same_Some u t e) ∙ moving

    asked_host : (o : Option HostName) (args : List ℕ) (frames : List (Frame Starting)) → (o >>= λ h. Some (stands s frames (Waits (record { host = h; args = args })))) ≡ Some t → ⊥
    asked_host None args frames e = cc
    asked_host (Some h) args frames e = let waits = status_of (stands s frames (Waits (record { host = h; args = args }))) e in cc

    go : (o : Option (Next ModuleParts ℕ)) → LeavesCode o → (option_map (seen_next starting) o >>= became (module_hosts m) s) ≡ Some t → ⊥
    go None leaves e = cc
    go (Some (Goes us memory frames)) leaves e = leaves
    go (Some (Asks entry args frames)) leaves e = asked_host (module_hosts m entry) args (seen starting frames) e
    go (Some (Loads which args frames)) leaves e = cc
    go (Some Ends) leaves e = let ended = status_of (stands s [] Returned) e in cc
    go (Some (Traps why)) leaves e = let ended = status_of (stands s [] (Trapped why)) e in cc

abbrev since : ModuleParts → MemoryInstance → Core → Changes ModuleParts
since us memory new = record { old_units = us; old_memory = memory; new_units = new.instance.parts; new_memory = new.instance.memory }

-- a step that is made
pub steps_told : (new : Core) (s : ModuleState) (old : MachineState) (us : ModuleParts) (memory : MemoryInstance) (e : Event) (next : Option (Next ModuleParts ℕ))
    → is_begun e ≡ true → new.phase ≢ phase.Opened → s.units ≡ us → s.memory ≡ memory → Comes new.checked.now s (starting_of new) next
    → Told (module_view new.checked.now) e next old new.machine (since us memory new) → IfSome next (KeepsUnder (module_view new.checked.now) (marks_in new.phase)) → IsAsked (module_view new.checked.now) new.machine.standing
    → Steps e s new
steps_told new s old us memory event.Moved (Some (Goes us' memory' frames)) begun called units space comes t under host = went new s called us' memory' frames comes t.0 t.1 t.2 t.3
steps_told new s old us memory (event.Waits a) (Some (Asks entry args frames)) begun called units space comes t under host =
    asked new s called a entry args frames t.0 comes t.1 host t.2 t.3 (units ∙ sym t.4.0) (space ∙ sym t.4.1)
steps_told new s old us memory (event.Loader which first second) (Some (Loads called args frames)) begun called' units space comes t under host = absurd (let there = under.0 in cc)
steps_told new s old us memory event.Returned (Some Ends) begun called units space comes t under host = returned new s comes t.0.standing_is (units ∙ sym t.1.0) (space ∙ sym t.1.1)
steps_told new s old us memory (event.Trapped why) (Some (Traps cause)) begun called units space comes t under host =
    trapped new s why cause comes t.0.standing_is t.1 (units ∙ sym t.2.0) (space ∙ sym t.2.1)
steps_told new s old us memory event.Deep (Some (Goes us' memory' frames)) begun called units space comes t under host = absurd cc
steps_told new s old us memory e next begun called units space comes t under host = absurd t

-- what is so of the machine after a step that is made
pub live_at : (p : Phase) (n : MachineState) (frames : List (Frame ℕ)) (st : Standing) → StandsAt n frames st → IsLive st frames p → IsLive n.standing n.stack.frames p
live_at p n frames st at h = subst (λ (x : Standing). IsLive x n.stack.frames p) (sym at.standing_is) (subst (λ (fs : List (Frame ℕ)). IsLive st fs p) (sym at.frames_are) h)

pub live_told : (V : View ModuleParts) (alone : V.has_loader ≡ false) (p : Phase) (old n : MachineState) (c : Changes ModuleParts) (e : Event) (next : Option (Next ModuleParts ℕ))
    → is_begun e ≡ true → p ≢ phase.Opened → Told V e next old n c → IfSome next (KeepsUnder V (marks_in p)) → IsLive n.standing n.stack.frames p
live_told V alone p old n c event.Moved (Some (Goes us memory frames)) begun called t under = live_at p n frames standing.Moving t.0 (in_phase p frames called under)
live_told V alone p old n c (event.Waits a) (Some (Asks entry args frames)) begun called t under = live_at p n frames (standing.Asking entry t.0) t.1 (in_phase p frames called under, called)
live_told V alone p old n c (event.Loader which first second) (Some (Loads called args frames)) begun called' t under = absurd (let wrong : true ≡ false = sym under.0 ∙ alone in cc)
live_told V alone p old n c event.Returned (Some Ends) begun called t under = live_at p n [] standing.Returned t.0 tt
live_told V alone p old n c (event.Trapped why) (Some (Traps cause)) begun called t under = live_at p n [] (standing.Trapped why) t.0 tt
live_told V alone p old n c event.Deep (Some (Goes us memory frames)) begun called t under = absurd cc
live_told V alone p old n c e next begun called t under = absurd t
