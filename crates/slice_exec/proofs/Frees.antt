-- Before the steps of a turn no limit of the program is due.
use Rattle.std.proofs.Common.{◌≡◌, ◌≤◌, ◌<◌, ℕ, ◌+◌, ◌-◌, Bool, true, false, true≢false, ◌||◌, List, [], ◌∷◌, length, take, sum, map, nat_eq, nat_le, None, refl, sym, ap, ◌∙◌, arith}
use Rattle.std.proofs.lemmas.Bool.{leb-false, lt-leb, or_parts}
use Rattle.std.proofs.lemmas.List.{length-take, take-take}
use Rattle.std.proofs.lemmas.List.Sums.{sum-map, sum_by-take-le}
use Rattle.spec_hosts.specs.wasm_form.declared.runtime.Trap.{Trap}
use Rattle.spec_hosts.specs.wasm_form.declared.runtime.Answer.{Answer}
use Rattle.spec_hosts.specs.spec_runs.Systems.{Status, Moving, Waits, Returned, Exited, Trapped}
use Rattle.spec_hosts.specs.spec_runtime.Memories.{MemoryInstance}
use Rattle.spec_hosts.specs.spec_runtime.Hosts.{HostCall}
use Rattle.spec_hosts.specs.spec_runtime.Recorded.{waits}
use Rattle.spec_hosts.specs.spec_runtime.Courses.{Course}
use Rattle.spec_hosts.specs.Ends.{most_answers, most_written, bytes_written, are_many, taken_of, is_due}
use Rattle.spec_boards.specs.Turns.{Place, reached, stop_by, stop_at, Turned, turn_of}
use Rattle.spec_boards.proofs.Turning.{is_turn}
use Rattle.wasm_exec.specs.Driving.{IsFree}
use Rattle.wasm_exec.proofs.Limits.{not_due, free_to}

-- ---- fewer answers

written_front : (n : ℕ) (given : List Answer) → sum (map bytes_written (take n given)) ≤ sum (map bytes_written given)
written_front n given =
    let front = sum-map bytes_written (take n given) in
    let all = sum-map bytes_written given in
    let less = sum_by-take-le bytes_written given n in
    omega arith

-- of answers that are not too many the first ones aren't
few_front : (n : ℕ) (given : List Answer) → are_many given ≡ false → are_many (take n given) ≡ false
few_front n given few =
    let both = or_parts (nat_le most_answers (length given)) (nat_le most_written (sum (map bytes_written given))) few in
    let count = leb-false most_answers (length given) both.0 in
    let written = leb-false most_written (sum (map bytes_written given)) both.1 in
    let shorter : length (take n given) ≤ length given = (let e = length-take n given in omega arith) in
    let less = written_front n given in
    neither (nat_le most_answers (length (take n given))) (nat_le most_written (sum (map bytes_written (take n given))))
    (lt-leb most_answers (length (take n given)) (omega arith)) (lt-leb most_written (sum (map bytes_written (take n given))) (omega arith))
  where
    neither : (a b : Bool) → a ≡ false → b ≡ false → (a || b) ≡ false
    neither a b p q = rw (p, q) refl

-- those that were taken before one that is left are some of those before the last one
few_taken : (given : List Answer) (a : Answer) (left : List Answer) → are_many (take (length given - 1) given) ≡ false → are_many (taken_of given (a ∷ left)) ≡ false
few_taken given a left few =
    let fewer : length given - length (a ∷ left) ≤ length given - 1 = omega arith in
    ap are_many (sym (take-take (length given - length (a ∷ left)) (length given - 1) given fewer)) ∙ few_front (length given - length (a ∷ left)) (take (length given - 1) given) few

-- ---- a step before which no cause to stop was due

flat : (limited spent deep : Bool) (left : List Answer) (memory : MemoryInstance) (status : Status HostCall Trap) → stop_by limited spent deep left memory status ≡ None → status ≡ Moving → deep ≡ false
flat true spent deep left memory Moving e moving = absurd cc
flat false true deep left memory Moving e moving = absurd cc
flat false false true left memory Moving e moving = absurd cc
flat false false false left memory Moving e moving = refl
flat limited spent deep left memory (Waits call) e moving = absurd cc
flat limited spent deep left memory Returned e moving = absurd cc
flat limited spent deep left memory (Exited code) e moving = absurd cc
flat limited spent deep left memory (Trapped why) e moving = absurd cc

few_at : (limited spent deep : Bool) (given left : List Answer) (memory : MemoryInstance) (status : Status HostCall Trap) → are_many (take (length given - 1) given) ≡ false
    → stop_by limited spent deep left memory status ≡ None → waits status ≡ true → are_many (taken_of given left) ≡ false
few_at true spent deep given left memory (Waits call) few e waiting = absurd cc
few_at false spent deep given [] memory (Waits call) few e waiting = absurd cc
few_at false spent deep given (a ∷ left) memory (Waits call) few e waiting = few_taken given a left few
few_at limited spent deep given left memory Moving few e waiting = absurd (true≢false (sym waiting))
few_at limited spent deep given left memory Returned few e waiting = absurd (true≢false (sym waiting))
few_at limited spent deep given left memory (Exited code) few e waiting = absurd (true≢false (sym waiting))
few_at limited spent deep given left memory (Trapped why) few e waiting = absurd (true≢false (sym waiting))

-- ---- a whole turn

module _ (C : Course) (most slice : ℕ) (p : Place) where
  abbrev t : Turned
  t = turn_of C most slice p

  -- where no limit was due before the steps so far, none is before those of the turn
  pub turn_free : are_many (take (length p.given - 1) p.given) ≡ false → IsFree C p.steps p.given → IsFree C t.place.steps p.given
  turn_free room before = free_to C p.given p.steps t.place.steps before here
    where
      here : (k : ℕ) → p.steps ≤ k → k < t.place.steps → is_due C.system C.deep (reached C (record p { steps = k })).state (taken_of p.given (reached C (record p { steps = k })).left) ≡ false
      here k above below =
          let turn = is_turn C most slice p in
          let few = turn.few in
          let steps : t.place.steps ≡ p.steps + t.made = ap (λ (q : Place). q.steps) turn.same in
          let j : ℕ = k - p.steps in
          let rest : ℕ = slice - j in
          let none : stop_at C most rest (record p { steps = p.steps + j }) ≡ None = turn.free j (omega arith) rest (omega arith) in
          let same : p.steps + j ≡ k = omega arith in
          let at : Place = record p { steps = k } in
          let e : stop_at C most rest at ≡ None = ap (λ n. stop_at C most rest (let q : Place = record p { steps = n } in q)) (sym same) ∙ none in
          let r = reached C at in
          not_due C r.state (taken_of p.given r.left)
          (flat (nat_eq at.steps most) (nat_eq rest 0) (C.deep r.state) r.left (C.system.memory r.state) (C.system.status r.state) e)
          (few_at (nat_eq at.steps most) (nat_eq rest 0) (C.deep r.state) p.given r.left (C.system.memory r.state) (C.system.status r.state) room e)
