-- What a step that was led tells, and that the machine stands over its view afterwards.
use Rattle.std.proofs.Common.{◌≡◌, ◌≢◌, ℕ, List, [], ◌∷◌, refl, ap, sym, ◌∙◌, subst, Option, Some, None, true, false, inl, inr, ◌⊎◌}
use Rattle.wasm_form.specs.declared.runtime.Ref.{Ref}
use Rattle.wasm_form.specs.declared.runtime.Trap.{Trap}
use Rattle.spec_safety.specs.spec_runtime.Memories.{MemoryInstance}
use Rattle.spec_safety.specs.spec_binary.Indices.{nullary}
use Rattle.spec_safety.specs.spec_execution.Views.{View, type_of}
use Rattle.spec_safety.specs.spec_execution.Ranges.{AreInRange}
use Rattle.spec_safety.specs.spec_execution.Runs.{is_running, Frame, Active, Next, Goes, Asks, Loads, Ends, Traps, call}
use Rattle.wasm_step.specs.Tops.{Top}
use Rattle.wasm_machine.specs.Stacks.{CallStack, IsJoined, under_of, is_live, joined, IsBounded}
use Rattle.wasm_step.specs.Moves.{Changes, AreSame}
use Rattle.wasm_machine.specs.Machines.{MachineState, RoomsAre, on_tag, StackFits, IsOver, IsAsked, MayGrow, StaysWithin, LeavesCode, Led, Told, Stepped, QuickStepped, IsCallingOutside, calls_outside, next_of}
use Rattle.wasm_machine.specs.declared.machine.Standing.{Standing}
use Rattle.wasm_machine.specs.declared.machine.Standing.TheVariants as standing
use Rattle.wasm_machine.specs.declared.callers.Caller.{Caller}
use Rattle.wasm_step.specs.declared.done.Done.{Done}
use Rattle.wasm_step.specs.declared.done.Done.TheVariants as done
use Rattle.wasm_machine.specs.declared.event.Event.{Event}
use Rattle.wasm_machine.specs.declared.event.Event.TheVariants as event
use Rattle.spec_safety.specs.TypedFrames.{Stand}
use Rattle.wasm_machine.proofs.Depths.{not_deep_at}
use Rattle.wasm_machine.proofs.Joined.{frames_live}
use Rattle.wasm_machine.proofs.Sound.{NextIsSound, code_in_range, next_sound, called_sound, stays_within, told_over, same_over}

module _ {Units : Type 0} (V : View Units) (Wanting : Type 0) (stack : CallStack) (c : Changes Units) where
  -- the code goes on
  pub told_moved : (next : Option (Next Units ℕ)) (old new : MachineState) → Led V done.Goes next Wanting stack new.stack c → new.standing ≡ standing.Moving → RoomsAre V new.stack → IsBounded new.stack → Told V event.Moved next old new c
  told_moved None old new l s r b = absurd l
  told_moved (Some (Goes us memory frames)) old new l s r b = (record { frames_are = l.0; standing_is = s }, not_deep_at V new.stack frames l.0 r b, l.1, l.2)
  told_moved (Some (Asks entry args frames)) old new l s r b = absurd l
  told_moved (Some (Loads which args frames)) old new l s r b = absurd l
  told_moved (Some Ends) old new l s r b = absurd l
  told_moved (Some (Traps why)) old new l s r b = absurd l

-- nothing has changed
abbrev pub unchanged : {Units : Type 0} → Units → MemoryInstance → Changes Units
unchanged us memory = record { old_units = us; old_memory = memory; new_units = us; new_memory = memory }

-- ---- a call over a mark or nothing

module _ {Units : Type 0} (V : View Units) (Wanting : Type 0) (us : Units) (memory : MemoryInstance) (cs : List Caller) (t t' : Top) (s : Standing) (r : Ref) (idle : is_live t ≡ false) (moving : s ≡ standing.Moving)
    (led : Led V done.Goes (call V us memory (λ _. under_of cs t) [] r) Wanting (joined cs t) (joined cs t') (unchanged us memory)) (rooms : RoomsAre V (joined cs t')) where
  frames_under : (joined cs t).frames ≡ under_of cs t
  frames_under = rw idle refl

  led_over : Led V done.Goes (call V us memory (λ _. (joined cs t).frames) [] r) Wanting (joined cs t) (joined cs t') (unchanged us memory)
  led_over = subst (λ (frames : List (Frame ℕ)). Led V done.Goes (call V us memory (λ _. frames) [] r) Wanting (joined cs t) (joined cs t') (unchanged us memory)) (sym frames_under) led

  pub begun_told : IsBounded (joined cs t')
      → Told V event.Moved (call V us memory (λ _. (joined cs t).frames) [] r) (record { stack = joined cs t; standing = s }) (record { stack = joined cs t'; standing = s }) (unchanged us memory)
  begun_told b =
      told_moved V Wanting (joined cs t) (unchanged us memory) (call V us memory (λ _. (joined cs t).frames) [] r) (record { stack = joined cs t; standing = s }) (record { stack = joined cs t'; standing = s }) led_over moving rooms b

  -- the same of a machine and a function that are so
  pub begun_told_at : (old : MachineState) (f : Ref) → record { stack = joined cs t; standing = s } ≡ old → f ≡ r → IsBounded (joined cs t')
      → Told V event.Moved (call V us memory (λ _. old.stack.frames) [] f) old (record { stack = joined cs t'; standing = s }) (unchanged us memory)
  begun_told_at old f e q b =
      subst (λ (m : MachineState). Told V event.Moved (call V us memory (λ _. m.stack.frames) [] f) m (record { stack = joined cs t'; standing = s }) (unchanged us memory)) e
      (subst (λ (h : Ref). Told V event.Moved (call V us memory (λ _. (joined cs t).frames) [] h) (record { stack = joined cs t; standing = s }) (record { stack = joined cs t'; standing = s }) (unchanged us memory)) (sym q) (begun_told b))

-- ---- one step that is told in few bytes

-- a sound step is there
pub always_moves : {Units : Type 0} (V : View Units) (next : Option (Next Units ℕ)) → NextIsSound V next → next ≢ None
always_moves V None n e = n.0
always_moves V (Some step) n e = absurd cc

module _ {Units : Type 0} (V : View Units) (Wanting : Type 0) (old new : CallStack) (c : Changes Units) where
  pub returned_same : (next : Option (Next Units ℕ)) → Led V done.Returned next Wanting old new c → AreSame c
  returned_same None l = absurd l
  returned_same (Some (Goes us memory frames)) l = absurd l
  returned_same (Some (Asks entry args frames)) l = absurd l
  returned_same (Some (Loads which args frames)) l = absurd l
  returned_same (Some Ends) l = l
  returned_same (Some (Traps why)) l = absurd l

  pub trapped_same : (next : Option (Next Units ℕ)) (why : Trap) → Led V (done.Trapped why) next Wanting old new c → AreSame c
  trapped_same None why l = absurd l
  trapped_same (Some (Goes us memory frames)) why l = absurd l
  trapped_same (Some (Asks entry args frames)) why l = absurd l
  trapped_same (Some (Loads which args frames)) why l = absurd l
  trapped_same (Some Ends) why l = absurd l
  trapped_same (Some (Traps cause)) why l = l.1

  -- a step that would pass a limit changes nothing
  pub told_deep : (next : Option (Next Units ℕ)) (m n : MachineState) → n ≡ m → Led V done.Deep next Wanting old new c → Told V event.Deep next m n c × (new ≡ old) × AreSame c
  told_deep None m n e l = absurd l
  told_deep (Some (Goes us memory frames)) m n e l = ((l.0, e, l.2), l.1, l.2)
  told_deep (Some (Asks entry args frames)) m n e l = absurd l
  told_deep (Some (Loads which args frames)) m n e l = absurd l
  told_deep (Some Ends) m n e l = absurd l
  told_deep (Some (Traps why)) m n e l = absurd l

-- a step leaves the machine over its view
pub stepped_over : {Units : Type 0} (V : View Units) (old new : MachineState) (c : Changes Units) (e : Event) → IsOver V c.old_units c.old_memory old → Stepped V e old new c → RoomsAre V new.stack → IsAsked V new.standing → IsOver V c.new_units c.new_memory new
stepped_over V old new c e o (inl x) rooms asked =
    let fit : Stand V V.names on_tag old.stack.frames [] = subst (λ s. StackFits V s old.stack.frames) x.0 o.stack in
    told_over V old new c o e (next_of V c.old_units c.old_memory old.stack.frames) (next_sound V c.old_units c.old_memory old.stack.frames o.view o.units o.memory x.1 fit o.locals) x.2 rooms asked
stepped_over V old new c e o (inr (inl x)) rooms asked = same_over V old new c o x.2 x.3
stepped_over V old new c e o (inr (inr x)) rooms asked = same_over V old new c o x.1 x.2

-- and so does a call over a mark or nothing
pub begins_over : {Units : Type 0} (V : View Units) (us : Units) (memory : MemoryInstance) (e : Event) (r : Ref) (old new : MachineState) → IsOver V us memory old → old.standing ≡ standing.Moving → type_of V r ≡ Some nullary
    → Told V e (call V us memory (λ _. old.stack.frames) [] r) old new (unchanged us memory) → RoomsAre V new.stack → IsAsked V new.standing → IsOver V us memory new
begins_over V us memory e r old new o moving typed told rooms asked =
    let fit : Stand V V.names on_tag old.stack.frames [] = subst (λ s. StackFits V s old.stack.frames) moving o.stack in
    told_over V old new (unchanged us memory) o e (call V us memory (λ _. old.stack.frames) [] r) (called_sound V us memory old.stack.frames r o.view o.units o.memory fit o.locals typed) told rooms asked

-- ---- the code on top of a machine that goes on

module _ {Units : Type 0} (V : View Units) (us : Units) (memory : MemoryInstance) (cs : List Caller) (t : Top) (s : Standing) (old : MachineState) (live : is_live t ≡ true) (moving : s ≡ standing.Moving)
    (is : record { stack = joined cs t; standing = s } ≡ old) (over : IsOver V us memory old) where
  pub here_over : IsOver V us memory (record { stack = joined cs t; standing = s })
  here_over = rw (← is) at over

  here_stands : Stand V V.names on_tag (joined cs t).frames []
  here_stands = subst (λ x. StackFits V x (joined cs t).frames) moving here_over.stack

  here_runs : is_running (joined cs t).frames ≡ true
  here_runs = rw live refl

  pub here_sound : NextIsSound V (next_of V us memory (joined cs t).frames)
  here_sound = next_sound V us memory (joined cs t).frames here_over.view here_over.units here_over.memory here_runs here_stands here_over.locals

  pub here_within : StaysWithin V (next_of V us memory (joined cs t).frames)
  here_within = stays_within V (next_of V us memory (joined cs t).frames) here_sound

  pub here_moves : next_of V us memory (joined cs t).frames ≢ None
  here_moves = always_moves V (next_of V us memory (joined cs t).frames) here_sound

  pub here_in_range : AreInRange (V.counts t.act.unit) t.act.rest
  here_in_range =
      let st : Stand V V.names on_tag (Active t.act ∷ under_of cs t) [] = subst (λ fs. Stand V V.names on_tag fs []) (frames_live cs t live) here_stands in
      code_in_range V t.act (under_of cs t) [] here_over.view st

module _ {Units : Type 0} (V : View Units) (c : Changes Units) (cs cs' : List Caller) (t t' : Top) (s : Standing) (d : Done) (old : MachineState) (live : is_live t ≡ true) (moving : s ≡ standing.Moving)
    (led : Led V d (next_of V c.old_units c.old_memory (joined cs t).frames) (MayGrow (joined cs t).frames) (joined cs t) (joined cs' t') c) (is : record { stack = joined cs t; standing = s } ≡ old) (over : IsOver V c.old_units c.old_memory old) where
  abbrev at : MachineState
  at = record { stack = joined cs t; standing = s }

  abbrev to : MachineState
  to = record { stack = joined cs' t'; standing = s }

  over_at : IsOver V c.old_units c.old_memory at
  over_at = rw (← is) at over

  code_at : is_running (joined cs t).frames ≡ true
  code_at = rw live refl

  goes_stepped : d ≡ done.Goes → RoomsAre V (joined cs' t') → IsBounded (joined cs' t') → QuickStepped V done.Goes at to c
  goes_stepped e r b =
      let l = rw e at led in
      inl (moving, code_at, told_moved V (MayGrow (joined cs t).frames) (joined cs t) c (next_of V c.old_units c.old_memory (joined cs t).frames) at to l moving r b)

  at_same : joined cs' t' ≡ joined cs t → to ≡ at
  at_same e = ap (λ (st : CallStack). let m : MachineState = record { stack = st; standing = s } in m) e

  deep_kept : d ≡ done.Deep → (joined cs' t' ≡ joined cs t) × AreSame c
  deep_kept e =
      let k = told_deep V (MayGrow (joined cs t).frames) (joined cs t) (joined cs' t') c (next_of V c.old_units c.old_memory (joined cs t).frames) at at refl (rw e at led) in
      (k.1, k.2)

  deep_stepped : d ≡ done.Deep → QuickStepped V done.Deep at to c
  deep_stepped e =
      let k = told_deep V (MayGrow (joined cs t).frames) (joined cs t) (joined cs' t') c (next_of V c.old_units c.old_memory (joined cs t).frames) at to (at_same (deep_kept e).0) (rw e at led) in
      inl (moving, code_at, k.0)

  outside_kept : d ≡ done.Outside → (joined cs' t' ≡ joined cs t) × AreSame c
  outside_kept e = let l = rw e at led in (l.0, l.1)

  outside_leaves : d ≡ done.Outside → LeavesCode (next_of V c.old_units c.old_memory (joined cs t).frames)
  outside_leaves e = let l = rw e at led in l.2

  outside_stepped : d ≡ done.Outside → calls_outside V c.old_units t.act ≡ true → QuickStepped V done.Outside at to c
  outside_stepped e q =
      let k = outside_kept e in
      let calls : IsCallingOutside V c.old_units at = rw live (moving, q) in
      (calls, at_same k.0, k.1, outside_leaves e)

  module _ (outside : d ≡ done.Outside → calls_outside V c.old_units t.act ≡ true) (lies : d ≢ done.NoMemory → IsJoined cs' t') (rooms : d ≡ done.Goes → RoomsAre V (joined cs' t')) (which : (d ≡ done.Goes) ⊎ ((d ≡ done.Deep) ⊎ (d ≡ done.Outside))) where
    pub stays_stepped : QuickStepped V d old to c
    stays_stepped =
        subst (λ (m : MachineState). QuickStepped V d m to c) is (elim which as (λ _. QuickStepped V d at to c) [
          | inl e ↦ subst (λ (x : Done). QuickStepped V x at to c) (sym e) (goes_stepped e (rooms e) (lies (λ f. let g : done.Goes ≡ done.NoMemory = sym e ∙ f in cc)).bounded)
          | inr k ↦ (elim k as (λ _. QuickStepped V d at to c) [
            | inl e ↦ subst (λ (x : Done). QuickStepped V x at to c) (sym e) (deep_stepped e)
            | inr e ↦ subst (λ (x : Done). QuickStepped V x at to c) (sym e) (outside_stepped e (outside e))
          ])
        ])

    kept_over : (joined cs' t' ≡ joined cs t) × AreSame c → IsOver V c.new_units c.new_memory to
    kept_over k = same_over V at to c over_at (at_same k.0) k.1

    pub stays_over : IsOver V c.new_units c.new_memory to
    stays_over =
        elim which as (λ _. IsOver V c.new_units c.new_memory to) [
          | inl e ↦ stepped_over V at to c event.Moved over_at (goes_stepped e (rooms e) (lies (λ f. let g : done.Goes ≡ done.NoMemory = sym e ∙ f in cc)).bounded) (rooms e) (rw moving tt)
          | inr k ↦ (elim k as (λ _. IsOver V c.new_units c.new_memory to) [ inl e ↦ kept_over (deep_kept e) | inr e ↦ kept_over (outside_kept e) ])
        ]
