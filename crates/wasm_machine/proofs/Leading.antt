-- From an instruction that leaves its activation on top to the step of the call stack.
use Rattle.std.proofs.Common.{arith, ◌≡◌, ◌≢◌, ℕ, ◌≤◌, ◌+◌, true, false, List, [], ◌∷◌, length, refl, sym, ap, subst, ◌∙◌, Option, None, Some, inl, inr}
use Rattle.std.specs.Prelude.{IsTrue}
use Rattle.std.proofs.Math.Bool.{or-true}
use Rattle.wasm_form.specs.declared.instr.Instr.{Instr, out-Instr}
use Rattle.wasm_form.specs.declared.runtime.Ref.{Ref}
use Rattle.wasm_form.specs.declared.runtime.Value.TheVariants.{Func}
use Rattle.spec_safety.specs.spec_runtime.Memories.{MemoryInstance}
use Rattle.spec_safety.specs.spec_binary.Options.{◌>>=◌}
use Rattle.spec_safety.specs.spec_execution.Activations.{instr_move, Activation, Move, On, Calls, CallsEntry, Refers, Does, Leaves, Fails, Stuck, pushed}
use Rattle.spec_safety.specs.spec_execution.Views.{View, Effected, performed}
use Rattle.spec_safety.specs.spec_execution.Views as effects
use Rattle.spec_safety.specs.spec_execution.Runs.{Frame, Active, Next, Goes, Asks, Loads, effected_with, carried_out}
use Rattle.spec_safety.specs.spec_execution.Runs as runs
use Rattle.spec_safety.specs.spec_execution.Limits.{room_of}
use Rattle.wasm_step.specs.Tops.{Top, with_act, height_of}
use Rattle.wasm_step.specs.Primitives.{first_of, past}
use Rattle.wasm_machine.specs.Stacks.{CallStack, most_blocks, is_live, under_of, joined, IsJoined}
use Rattle.wasm_step.specs.Moves.{Act, To, Ends, Nowhere, act_done, act_referred, acted, IsWithin, Changes, Acted}
use Rattle.wasm_step.specs.Named.{is_call, is_growth}
use Rattle.wasm_machine.specs.Machines.{RoomsAre, Led, StaysWithin, MayGrow, may_grow_at, next_of}
use Rattle.wasm_machine.specs.Outside.{callee_of}
use Rattle.wasm_machine.specs.Callees.{callee_move}
use Rattle.wasm_machine.specs.declared.calls.Callee.{Callee}
use Rattle.wasm_machine.specs.declared.callers.Caller.{Caller}
use Rattle.wasm_step.specs.declared.done.Done.{Done}
use Rattle.wasm_step.specs.declared.done.Done.TheVariants as done
use Rattle.wasm_machine.proofs.Joined.{frames_live, nesting_live, RoomsAre_live}
use Rattle.wasm_machine.proofs.Staying.{StaysIn, instr-stays}
use Rattle.wasm_machine.proofs.Coming.{some_called, step_is}
use Rattle.wasm_machine.proofs.Callees.{callee_step}

-- ---- what a move comes to, in the activation and on the call stack

abbrev Fits : {Units : Type 0} → ℕ → ℕ → List (Frame ℕ) → Act Units → Option (Next Units ℕ) → Type 0
Fits unit func under (To us memory a) next = (next ≡ Some (Goes us memory (Active a ∷ under))) × (a.unit ≡ unit) × (a.func ≡ func)
Fits unit func under (Ends why) next = next ≡ Some (runs.Traps why)
Fits unit func under Nowhere next = next ≡ None

module _ {Units : Type 0} (V : View Units) (us : Units) (memory : MemoryInstance) (under : List (Frame ℕ)) (unit func count : ℕ) where
  referred-fits : (a : Activation) (o : Option Ref) → (a.unit ≡ unit) × (a.func ≡ func) → Fits unit func under (act_referred us memory a o) (o >>= λ r. Some (Goes us memory (Active (pushed a (Func (Some r))) ∷ under)))
  referred-fits a None h = refl
  referred-fits a (Some r) h = (refl, h.0, h.1)

  done-fits : (a : Activation) (o : Option (Effected Units)) → (a.unit ≡ unit) × (a.func ≡ func) → Fits unit func under (act_done a o) (o >>= λ effected. Some (effected_with under a effected))
  done-fits a None h = refl
  done-fits a (Some (effects.Gives values us' memory')) h = (refl, h.0, h.1)
  done-fits a (Some (effects.Traps why)) h = refl

  acted-fits : (m : Move) → StaysIn unit func count m → Fits unit func under (acted V us memory m) (carried_out V us memory under m)
  acted-fits (On a) h = (refl, h.0, h.1)
  acted-fits (Calls n a) h = absurd h
  acted-fits (CallsEntry t ty i a) h = absurd h
  acted-fits (Refers n a) h = referred-fits a (V.target a.unit n) (h.0, h.1)
  acted-fits (Does effect a) h = done-fits a (performed V us memory a.unit effect) (h.0, h.1)
  acted-fits (Leaves values) h = absurd h
  acted-fits (Fails why) h = refl
  acted-fits Stuck h = refl

-- ---- the call stack with another activation on top, of the same unit and function

module _ (cs : List Caller) (t new : Top) (b : Activation) (live : is_live t ≡ true) (e : new ≡ with_act t b) where
  frames_kept : (joined cs new).frames ≡ Active b ∷ under_of cs t
  frames_kept = rw (e, live) refl

  rooms_kept : {Units : Type 0} (V : View Units) → RoomsAre V (joined cs t) → b.unit ≡ t.act.unit → b.func ≡ t.act.func → RoomsAre V (joined cs new)
  rooms_kept V h eu ef = rw (e, live, eu, ef) (RoomsAre_live cs t live V h)

twice : (t u new : Top) (a b : Activation) → u ≡ with_act t a → new ≡ with_act u b → new ≡ with_act t b
twice t u new a b e f = rw e at f

module _ {Units : Type 0} (V : View Units) (cs : List Caller) (t u new : Top) (b : Activation) (c : Changes Units) (Grows Wanted : Type 0) (live : is_live t ≡ true) (eu : u ≡ with_act t b) where
  went : (us : Units) (memory : MemoryInstance) (a : Activation) (next : Option (Next Units ℕ)) → next ≡ Some (Goes us memory (Active a ∷ under_of cs t)) → (new ≡ with_act u a) × (c.new_units ≡ us) × (c.new_memory ≡ memory)
      → Led V done.Goes next Wanted (joined cs t) (joined cs new) c
  went us memory a next e h = subst (λ (n : Option (Next Units ℕ)). Led V done.Goes n Wanted (joined cs t) (joined cs new) c) (sym e) (frames_kept cs t new a live (twice t u new b a eu h.0), h.1, h.2)

  led_acted : (d : Done) (act : Act Units) (next : Option (Next Units ℕ)) (unit func : ℕ) → Fits unit func (under_of cs t) act next → (Grows → Wanted) → Acted d act Grows u new c → Led V d next Wanted (joined cs t) (joined cs new) c
  led_acted done.Goes (To us memory a) next unit func f k h = went us memory a next f.0 h
  led_acted (done.Trapped why) (Ends cause) next unit func f k h = subst (λ (n : Option (Next Units ℕ)). Led V (done.Trapped why) n Wanted (joined cs t) (joined cs new) c) (sym f) h
  led_acted done.NoMemory act next unit func f k h = (k h.0, h.1)
  led_acted d act next unit func f k h = absurd h

  act_within : (d : Done) (act : Act Units) (next : Option (Next Units ℕ)) (unit func : ℕ) → Fits unit func (under_of cs t) act next → Acted d act Grows u new c → d ≡ done.Goes → (new.act.unit ≡ unit) × (new.act.func ≡ func)
  act_within done.Goes (To us memory a) next unit func f h e = (ap (λ (w : Top). w.act.unit) h.0 ∙ f.1, ap (λ (w : Top). w.act.func) h.0 ∙ f.2)
  act_within done.Goes (Ends cause) next unit func f h e = absurd h
  act_within done.Goes Nowhere next unit func f h e = absurd h
  act_within d act next unit func f h e = absurd cc

-- the same step, in other words, where memory may be wanting at least there
module _ {Units : Type 0} (V : View Units) (Wanting Wanted : Type 0) (old new : CallStack) (c : Changes Units) (weaker : Wanting → Wanted) where
  widened : (d : Done) (next : Option (Next Units ℕ)) → Led V d next Wanting old new c → Led V d next Wanted old new c
  widened done.NoMemory next h = (weaker h.0, h.1)
  widened d None h = h
  widened d (Some (Goes us memory frames)) h = h
  widened d (Some (Asks entry args frames)) h = h
  widened d (Some (Loads which args frames)) h = h
  widened d (Some runs.Ends) h = h
  widened d (Some (runs.Traps why)) h = h

  pub led_step : (d : Done) (next other : Option (Next Units ℕ)) → next ≡ other → Led V d other Wanting old new c → Led V d next Wanted old new c
  led_step d next other e h = subst (λ (n : Option (Next Units ℕ)). Led V d n Wanted old new c) (sym e) (widened d other h)

-- ---- where memory may be wanting

wants_call : (is : List Instr) (i : Instr) → Some i ≡ first_of is → is_call (out-Instr i) ≡ true → may_grow_at is ≡ true
wants_call [] i e h = absurd cc
wants_call (j ∷ is) i e h =
    let q : j ≡ i = cc in
    rw (q, h) refl

wants_growth : (is : List Instr) (i : Instr) → Some i ≡ first_of is → is_growth (out-Instr i) ≡ true → may_grow_at is ≡ true
wants_growth [] i e h = absurd cc
wants_growth (j ∷ is) i e h =
    let q : j ≡ i = cc in
    rw (q, h) (or-true (is_call (out-Instr i)))

module _ {Units : Type 0} (V : View Units) (cs : List Caller) (t : Top) (i : Instr) (live : is_live t ≡ true) (e : Some i ≡ first_of t.act.rest) where
  call_may_grow : is_call (out-Instr i) ≡ true → MayGrow (joined cs t).frames
  call_may_grow h = rw live (wants_call t.act.rest i e h)

  growth_may_grow : is_growth (out-Instr i) ≡ true → MayGrow (joined cs t).frames
  growth_may_grow h = rw live (wants_growth t.act.rest i e h)

  -- what moves and stays within the room is one of typed code
  within : (u : Top) (b : Activation) (act : Act Units) (next : Option (Next Units ℕ)) → IsJoined cs t → RoomsAre V (joined cs t) → u ≡ with_act t b → Fits t.act.unit t.act.func (under_of cs t) act next → StaysWithin V next → next ≢ None → IsWithin u act
  within u b (To us memory a) next j r eu f w m = λ k.
      let room : t.room ≡ room_of V t.act.unit t.act.func = head_of (RoomsAre_live cs t live V r) in
      let nesting : t.nesting ≡ most_blocks = nesting_live cs t live j in
      let w' : (length a.locals + height_of a ≤ room_of V t.act.unit t.act.func) × (length a.levels ≤ most_blocks) = rw (f.0, f.1, f.2) at w in
      let k' = rw eu at k in
      elim k' as (λ _. ⊥) [ inl h ↦ omega (arith, h, room, w'.0) | inr h ↦ omega (arith, h, nesting, w'.1) ]
    where
      head_of : {m n : ℕ} {ms ns : List ℕ} → m ∷ ms ≡ n ∷ ns → m ≡ n
      head_of q = cc
  within u b (Ends why) next j r eu f w m = tt
  within u b Nowhere next j r eu f w m = m f

-- ---- the next step

module _ {Units : Type 0} (V : View Units) (us : Units) (memory : MemoryInstance) (cs : List Caller) (t : Top) (i : Instr) (live : is_live t ≡ true) (e : Some i ≡ first_of t.act.rest) where
  next_live : next_of V us memory (joined cs t).frames ≡ next_of V us memory (Active t.act ∷ under_of cs t)
  next_live = ap (next_of V us memory) (frames_live cs t live)

  -- a call isn't stuck
  pub called_moves : (k : Callee) → callee_of (out-Instr i) ≡ Some k → next_of V us memory (joined cs t).frames ≢ None → carried_out V us memory (under_of cs t) (callee_move k t.act) ≢ None
  called_moves k q m = λ n. m (next_live ∙ callee_step V us t.act i e k q memory (under_of cs t) ∙ n)

  -- an instruction that doesn't call
  module _ (q : is_call (out-Instr i) ≡ false) where
    fits : Fits t.act.unit t.act.func (under_of cs t) (acted V us memory (instr_move (V.declared t.act.unit) (out-Instr i) (past t.act))) (next_of V us memory (joined cs t).frames)
    fits =
        rw (next_live, step_is V us t.act i e memory (under_of cs t)) (
        acted-fits V us memory (under_of cs t) t.act.unit t.act.func (length t.act.locals) (instr_move (V.declared t.act.unit) (out-Instr i) (past t.act)) (instr-stays (V.declared t.act.unit) (out-Instr i) (past t.act) q))

    pub within_plain : IsJoined cs t → RoomsAre V (joined cs t) → StaysWithin V (next_of V us memory (joined cs t).frames) → next_of V us memory (joined cs t).frames ≢ None → IsWithin t (acted V us memory (instr_move (V.declared t.act.unit) (out-Instr i) (past t.act)))
    within_plain j r w m = within V cs t i live e t t.act _ _ j r refl fits w m

module _ {Units : Type 0} (V : View Units) (us : Units) (memory : MemoryInstance) (cs : List Caller) (t : Top) (i : Instr) (d : Done) (c : Changes Units) (live : is_live t ≡ true) (e : Some i ≡ first_of t.act.rest) where
  -- a function is called
  pub led_called : (ds : List Caller) (new : Top) (k : Callee) (next : Option (Next Units ℕ)) → callee_of (out-Instr i) ≡ Some k → carried_out V us memory (under_of cs t) (callee_move k t.act) ≡ next → Led V d next (Unit {0}) (joined cs t) (joined ds new) c
      → Led V d (next_of V us memory (joined cs t).frames) (MayGrow (joined cs t).frames) (joined cs t) (joined ds new) c
  led_called ds new k next q e' h =
      led_step V (Unit {0}) (MayGrow (joined cs t).frames) (joined cs t) (joined ds new) c (λ _. call_may_grow V cs t i live e (some_called (out-Instr i) k q)) d _ _
      (next_live V us memory cs t i live e ∙ callee_step V us t.act i e k q memory (under_of cs t) ∙ e') h

  -- an instruction that doesn't call
  module _ (new : Top) (q : is_call (out-Instr i) ≡ false) (h : Acted d (acted V us memory (instr_move (V.declared t.act.unit) (out-Instr i) (past t.act))) (IsTrue (is_growth (out-Instr i))) t new c) where
    pub led_plain : Led V d (next_of V us memory (joined cs t).frames) (MayGrow (joined cs t).frames) (joined cs t) (joined cs new) c
    led_plain = led_acted V cs t t new t.act c _ _ live refl d _ _ t.act.unit t.act.func (fits V us memory cs t i live e q) (growth_may_grow V cs t i live e) h

    pub rooms_plain : RoomsAre V (joined cs t) → new ≡ with_act t new.act → d ≡ done.Goes → RoomsAre V (joined cs new)
    rooms_plain r en goes =
        let w = act_within V cs t t new t.act c (IsTrue (is_growth (out-Instr i))) (Unit {0}) live refl d _ _ t.act.unit t.act.func (fits V us memory cs t i live e q) h goes in
        rooms_kept cs t new new.act live en V r w.0 w.1
