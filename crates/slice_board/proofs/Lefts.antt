-- What is left of a turn stays the same by its steps.
use Rattle.std.proofs.Common.{◌≡◌, ◌≤◌, ◌<◌, ℕ, suc, ◌+◌, ◌-◌, min, Bool, true, false, List, nat_eq, inl, inr, Some, None, refl, sym, ap, ap₂, ◌∙◌, arith}
use Rattle.std.proofs.lemmas.Bool.Decides.{nat_tests}
use Rattle.spec_loading.specs.wasm_form.declared.runtime.Trap.{Trap}
use Rattle.spec_loading.specs.wasm_form.declared.runtime.Answer.{Answer}
use Rattle.spec_loading.specs.spec_runs.Systems.{Status, Moving}
use Rattle.spec_loading.specs.spec_runtime.Memories.{MemoryInstance}
use Rattle.spec_loading.specs.spec_runtime.Hosts.{HostCall}
use Rattle.spec_loading.specs.spec_runtime.Recorded.{Recorded}
use Rattle.spec_loading.specs.spec_runtime.Courses.{Course, reached, state_at, status_at, memory_at, with_step}
use Rattle.spec_boards.specs.declared.turn.Stop.{Stop}
use Rattle.spec_boards.specs.declared.turn.Stop.TheVariants as stop
use Rattle.spec_boards.specs.Turns.{stop_by, stop_at, turned}
use Rattle.spec_boards.proofs.Turning.{later, turned_stops, turned_goes_on, turned_further}
use Rattle.spec_boards.proofs.Stops.{still_due, still_none, due_deep, none_free, same_spent}
use Rattle.wasm_machine.specs.Steps.{Advances, AreOfCode}
use Rattle.slice_board.specs.Taken.{place_of}
use Rattle.slice_board.specs.Steps.{stop_seen, turn_left}

-- no cause to stop is due before a step of its own that isn't too deep, where neither the limit nor the turn's number of steps is reached
moving_none : (limited spent deep : Bool) (left : List Answer) (memory : MemoryInstance) (status : Status HostCall Trap)
    → limited ≡ false → spent ≡ false → deep ≡ false → status ≡ Moving → stop_by limited spent deep left memory status ≡ None
moving_none limited spent deep left memory status a b c d = rw (d, a, b, c) refl

-- where no cause to stop was seen, the turn may make a step more
pub seen_under : (C : Course) (most until : ℕ) (x : Recorded) → x.steps ≤ until → stop_seen C most until x ≡ None → x.steps < until
seen_under C most until x few e =
    let none = none_free (reached C x).left (memory_at C x) (nat_eq x.steps most) (nat_eq x.steps until) (status_at C x) e in
    let spent = none.1 in
    grind (arith, nat_tests)

module _ (C : Course) (most start end until : ℕ) (least : until ≡ min most end) where
  -- ---- steps of code

  module _ (old new : Recorded) (begun : start ≤ old.steps) (along : Advances until old new) (code : AreOfCode C old new) where
    same_answers : new.answers ≡ old.answers
    same_answers = ap (λ (x : Recorded). x.answers) along.same

    -- before each of them no cause to stop is due
    free : (k rest : ℕ) → k ≡ new.steps - old.steps → new.steps ≤ until → rest ≡ end - new.steps
        → (j : ℕ) → j < k → (left : ℕ) → left + j ≡ rest + k → stop_at C most left (later C most (place_of old) j) ≡ None
    free k rest k_is few rest_is j lt left e =
        let more = along.more in
        let on = code.free (old.steps + j) (omega arith) (omega arith) in
        let p = later C most (place_of old) j in
        let limited : nat_eq p.steps most ≡ false = not_same p.steps most (omega arith) in
        let spent : nat_eq left 0 ≡ false = not_none left (omega arith) in
        moving_none (nat_eq p.steps most) (nat_eq left 0) _ _ _ _ limited spent on.1 on.0
      where
        not_same : (a b : ℕ) → a < b → nat_eq a b ≡ false
        not_same a b lt = grind (arith, nat_tests)

        not_none : (a : ℕ) → 0 < a → nat_eq a 0 ≡ false
        not_none a lt = grind (arith, nat_tests)

    pub code_left : turn_left C most start end new ≡ turn_left C most start end old
    code_left = elim along.few [
      | inl none ↦
          let place : place_of new ≡ place_of old = (λ i. record { steps = none i; given = same_answers i }) in
          ap (λ n. turned C most (end - n) (place_of new) (n - start)) none ∙ ap (λ p. turned C most (end - old.steps) p (old.steps - start)) place
      | inr few ↦
          let more = along.more in
          let k = new.steps - old.steps in
          let rest = end - new.steps in
          let count : end - old.steps ≡ rest + k = omega arith in
          let on = turned_goes_on C most k rest (place_of old) (old.steps - start) (free k rest refl few refl) in
          let steps : old.steps + k ≡ new.steps = omega arith in
          let made : (old.steps - start) + k ≡ new.steps - start = omega arith in
          let place : later C most (place_of old) k ≡ place_of new = (λ i. record { steps = steps i; given = sym same_answers i }) in
          sym (ap (λ n. turned C most n (place_of old) (old.steps - start)) count ∙ on ∙ ap₂ (turned C most rest) place made)
    ]

  -- ---- one step more

  -- before a step that isn't too deep, where no cause to stop was seen, none is due
  pub seen_none : (x : Recorded) → x.steps ≤ until → stop_seen C most until x ≡ None → (status_at C x ≡ Moving → C.deep (state_at C x) ≡ false)
      → stop_at C most (end - x.steps) (place_of x) ≡ None
  seen_none x few e flat =
      let left = (reached C x).left in
      let deep = C.deep (state_at C x) in
      sym (same_spent left (memory_at C x) x.steps most end until few least deep (status_at C x))
      ∙ still_none left (memory_at C x) (nat_eq x.steps most) (nat_eq x.steps until) deep (status_at C x) e flat

  -- a cause that was seen is due
  pub seen_some : (x : Recorded) (why : Stop) → x.steps ≤ until → stop_seen C most until x ≡ Some why → stop_at C most (end - x.steps) (place_of x) ≡ Some why
  seen_some x why few e =
      let left = (reached C x).left in
      let deep = C.deep (state_at C x) in
      sym (same_spent left (memory_at C x) x.steps most end until few least deep (status_at C x))
      ∙ still_due left (memory_at C x) (nat_eq x.steps most) (nat_eq x.steps until) deep (status_at C x) why e

  pub seen_deep : (x : Recorded) → x.steps ≤ until → stop_seen C most until x ≡ None → status_at C x ≡ Moving → C.deep (state_at C x) ≡ true
      → stop_at C most (end - x.steps) (place_of x) ≡ Some stop.Deep
  seen_deep x few e moving is =
      let left = (reached C x).left in
      let deep = C.deep (state_at C x) in
      sym (same_spent left (memory_at C x) x.steps most end until few least deep (status_at C x))
      ∙ due_deep left (memory_at C x) (nat_eq x.steps most) (nat_eq x.steps until) deep (status_at C x) e moving is

  pub step_left : (old : Recorded) → start ≤ old.steps → old.steps < until → stop_at C most (end - old.steps) (place_of old) ≡ None
      → turn_left C most start end (with_step old) ≡ turn_left C most start end old
  step_left old begun under none =
      let rest = end - suc old.steps in
      let count : end - old.steps ≡ rest + 1 = omega arith in
      let on = turned_goes_on C most 1 rest (place_of old) (old.steps - start) (λ j lt left e. only j left lt (omega arith)) in
      let steps : old.steps + 1 ≡ suc old.steps = omega arith in
      let made : (old.steps - start) + 1 ≡ suc old.steps - start = omega arith in
      let place : later C most (place_of old) 1 ≡ place_of (with_step old) = (λ i. record { steps = steps i; given = old.answers }) in
      sym (ap (λ n. turned C most n (place_of old) (old.steps - start)) count ∙ on ∙ ap₂ (turned C most rest) place made)
    where
      only : (j left : ℕ) → j < 1 → left + j ≡ end - old.steps → stop_at C most left (later C most (place_of old) j) ≡ None
      only j left lt e =
          let here : old.steps + j ≡ old.steps = omega arith in
          let all : left ≡ end - old.steps = omega arith in
          let place : later C most (place_of old) j ≡ place_of old = (λ i. record { steps = here i; given = old.answers }) in
          ap₂ (stop_at C most) all place ∙ none

  -- ---- the end of a turn

  pub left_stops : (x : Recorded) (why : Stop) → stop_at C most (end - x.steps) (place_of x) ≡ Some why
      → turn_left C most start end x ≡ (record { place = place_of x; made = x.steps - start; why = why })
  left_stops x why e = turned_stops C most (end - x.steps) (place_of x) (x.steps - start) why e

  pub left_further : (x : Recorded) → x.steps ≤ (turn_left C most start end x).place.steps
  left_further x = turned_further C most (end - x.steps) (place_of x) (x.steps - start)
