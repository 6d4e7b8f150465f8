-- The causes to stop, by what is seen of a run.
use Rattle.std.proofs.Common.{◌≡◌, ◌≤◌, ℕ, ◌-◌, min, Bool, true, false, not, ◌&&◌, List, [], ◌∷◌, nat_eq, Some, None, refl, sym, ap, ◌∙◌, arith, if◌then◌else◌}
use Rattle.std.proofs.lemmas.Bool.Decides.{nat_tests}
use Rattle.spec_hosts.specs.wasm_form.declared.runtime.Trap.{Trap}
use Rattle.spec_hosts.specs.wasm_form.declared.runtime.Answer.{Answer}
use Rattle.spec_hosts.specs.spec_runs.Systems.{Status, Moving, Waits, Returned, Exited, Trapped}
use Rattle.spec_hosts.specs.spec_runtime.Memories.{MemoryInstance}
use Rattle.spec_hosts.specs.spec_runtime.Hosts.{HostCall, answer_fits}
use Rattle.spec_hosts.specs.spec_runtime.Recorded.{AreLeft, has_ended, waits}
use Rattle.spec_boards.specs.declared.turn.Stop.{Stop}
use Rattle.spec_boards.specs.declared.turn.Stop.TheVariants as stop
use Rattle.spec_boards.specs.Turns.{takes, stop_by}

-- the first of the causes, but for a step that is too deep
pub first_cause : (limited spent answered : Bool) (left : List Answer) (memory : MemoryInstance) (status : Status HostCall Trap) → AreLeft answered status memory left
    → (if has_ended status then Some stop.Ended else if limited then Some stop.StepLimit else if not answered && waits status then Some stop.Waits else if spent then Some stop.Spent else None)
    ≡ stop_by limited spent false left memory status
first_cause limited spent false left memory Moving are = go limited spent
  where
    go : (limited spent : Bool) → (if limited then Some stop.StepLimit else if spent then Some stop.Spent else None) ≡ stop_by limited spent false left memory Moving
    go true spent = refl
    go false true = refl
    go false false = refl
first_cause limited spent true left memory Moving are = absurd are
first_cause limited spent false left memory (Waits call) are =
    ap (λ l. stop_by limited spent false l memory (Waits call)) (sym are)
first_cause limited spent true [] memory (Waits call) are = absurd are
first_cause limited spent true (a ∷ []) memory (Waits call) are =
    (let fits : answer_fits call memory a ≡ true = are in rw fits refl)
first_cause limited spent true (a ∷ b ∷ left) memory (Waits call) are = absurd are
first_cause limited spent answered left memory Returned are = refl
first_cause limited spent answered left memory (Exited code) are = refl
first_cause limited spent answered left memory (Trapped why) are = refl

module _ (left : List Answer) (memory : MemoryInstance) where
  -- one that is due is so whether or not the next step is too deep
  pub still_due : (limited spent deep : Bool) (status : Status HostCall Trap) (why : Stop) → stop_by limited spent false left memory status ≡ Some why
      → stop_by limited spent deep left memory status ≡ Some why
  still_due true spent deep Moving why e = e
  still_due false true deep Moving why e = e
  still_due false false deep Moving why e = absurd cc
  still_due limited spent deep (Waits call) why e = e
  still_due limited spent deep Returned why e = e
  still_due limited spent deep (Exited code) why e = e
  still_due limited spent deep (Trapped why) cause e = e

  -- where none is due and the next step isn't too deep
  pub still_none : (limited spent deep : Bool) (status : Status HostCall Trap) → stop_by limited spent false left memory status ≡ None → (status ≡ Moving → deep ≡ false)
      → stop_by limited spent deep left memory status ≡ None
  still_none limited spent deep Moving e free = (let no : deep ≡ false = free refl in rw no e)
  still_none limited spent deep (Waits call) e free = e
  still_none limited spent deep Returned e free = absurd cc
  still_none limited spent deep (Exited code) e free = absurd cc
  still_none limited spent deep (Trapped why) e free = absurd cc

  -- where none is due but the next step is too deep
  pub due_deep : (limited spent deep : Bool) (status : Status HostCall Trap) → stop_by limited spent false left memory status ≡ None → status ≡ Moving → deep ≡ true
      → stop_by limited spent deep left memory status ≡ Some stop.Deep
  due_deep true spent deep status e moving is = absurd (let bad : Some stop.StepLimit ≡ None = rw moving at e in cc)
  due_deep false true deep status e moving is = absurd (let bad : Some stop.Spent ≡ None = rw moving at e in cc)
  due_deep false false deep status e moving is = rw (moving, is) refl

  -- a run that has ended stops
  pub none_going : (limited spent : Bool) (status : Status HostCall Trap) → stop_by limited spent false left memory status ≡ None → has_ended status ≡ false
  none_going limited spent Moving e = refl
  none_going limited spent (Waits call) e = refl
  none_going limited spent Returned e = absurd cc
  none_going limited spent (Exited code) e = absurd cc
  none_going limited spent (Trapped why) e = absurd cc

  -- and so does one at its limit of steps, or one whose turn is spent
  pub none_free : (limited spent : Bool) (status : Status HostCall Trap) → stop_by limited spent false left memory status ≡ None → (limited ≡ false) × (spent ≡ false)
  none_free false false status e = (refl, refl)
  none_free true spent Moving e = absurd cc
  none_free true spent (Waits call) e = absurd cc
  none_free true spent Returned e = absurd cc
  none_free true spent (Exited code) e = absurd cc
  none_free true spent (Trapped why) e = absurd cc
  none_free false true Moving e = absurd cc
  none_free false true (Waits call) e = go (takes call memory left) refl
    where
      go : (b : Bool) → takes call memory left ≡ b → (false ≡ false) × (true ≡ false)
      go true q = absurd (let bad : Some stop.Spent ≡ None = rw q at e in cc)
      go false q = absurd (let bad : Some stop.Waits ≡ None = rw q at e in cc)
  none_free false true Returned e = absurd cc
  none_free false true (Exited code) e = absurd cc
  none_free false true (Trapped why) e = absurd cc

  -- where the limit of steps isn't reached, a turn that goes to the lesser of two numbers of steps is spent there
  pub same_spent : (steps most end until : ℕ) → steps ≤ until → until ≡ min most end → (deep : Bool) (status : Status HostCall Trap)
      → stop_by (nat_eq steps most) (nat_eq steps until) deep left memory status ≡ stop_by (nat_eq steps most) (nat_eq (end - steps) 0) deep left memory status
  same_spent steps most end until few is deep status = go (nat_eq steps most) refl
    where
      limited : (status : Status HostCall Trap) (a b : Bool) → stop_by true a deep left memory status ≡ stop_by true b deep left memory status
      limited Moving a b = refl
      limited (Waits call) a b = refl
      limited Returned a b = refl
      limited (Exited code) a b = refl
      limited (Trapped why) a b = refl

      same : nat_eq steps most ≡ false → nat_eq steps until ≡ nat_eq (end - steps) 0
      same q = both (nat_eq steps until) refl
        where
          both : (b : Bool) → nat_eq steps until ≡ b → nat_eq steps until ≡ nat_eq (end - steps) 0
          both true e = grind (arith, nat_tests)
          both false e = grind (arith, nat_tests)

      go : (b : Bool) → nat_eq steps most ≡ b
          → stop_by (nat_eq steps most) (nat_eq steps until) deep left memory status ≡ stop_by (nat_eq steps most) (nat_eq (end - steps) 0) deep left memory status
      go true q = rw q (limited status (nat_eq steps until) (nat_eq (end - steps) 0))
      go false q = ap (λ b. stop_by (nat_eq steps most) b deep left memory status) (same q)
