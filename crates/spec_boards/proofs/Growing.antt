-- The calls of a run that has come further are those that it had come to, and then others.
use Rattle.std.proofs.Common.{◌≡◌, ℕ, zero, suc, ◌+◌, ◌-◌, List, [], ◌++◌, Option, Some, None, sym, ap, ◌∙◌, append-nil, append_assoc, arith}
use Rattle.spec_hosts.specs.spec_runs.Systems.{Outside, System, Ran, event, run, next, with_next}
use Rattle.spec_hosts.specs.spec_runtime.Hosts.{hosts}
use Rattle.spec_hosts.specs.spec_runtime.Courses.{Course}
use Rattle.spec_hosts.proofs.of_spec_runs.Runs.{run_last, run_append}
use Rattle.spec_boards.specs.Turns.{Place, reached}
use Rattle.spec_boards.specs.Laws.{CallsGrow, IsFurther}

module _ {O : Outside} (S : System O) where
  -- the events of one run, and then others, are those of another one
  abbrev Begins : Ran O S.State → Ran O S.State → Type 0
  Begins r q = (rest : List (O.Call × O.Memory)) × (q.events ≡ r.events ++ rest)

  begins_next : (r q : Ran O S.State) (o : Option (S.State × List O.Answer)) → Begins r q → Begins r (with_next S q o)
  begins_next r q None b = b
  begins_next r q (Some x) b = (b.0 ++ event S x.0, ap (λ l. l ++ event S x.0) b.1 ∙ append_assoc r.events b.0 (event S x.0))

  events_begin : (more n : ℕ) (s : S.State) (answers : List O.Answer) → Begins (run S n s answers) (run S (more + n) s answers)
  events_begin zero n s answers = (let none : 0 + n ≡ n = omega arith in ([], ap (λ k. (run S k s answers).events) none ∙ sym (append-nil (run S n s answers).events)))
  events_begin (suc more) n s answers =
      let q = run S (more + n) s answers in
      let b = begins_next (run S n s answers) q (next S q.state q.left) (events_begin more n s answers) in
      let count : suc more + n ≡ suc (more + n) = omega arith in
      (b.0, ap (λ k. (run S k s answers).events) count ∙ ap (λ (x : Ran O S.State). x.events) (run_last S (more + n) s answers) ∙ b.1)

pub calls_grow : (C : Course) (p q : Place) → IsFurther C p q → CallsGrow C p q
calls_grow C p q further =
    let few = further.steps in
    let b = events_begin C.system (q.steps - p.steps) p.steps C.opening q.given in
    let steps : (q.steps - p.steps) + p.steps ≡ q.steps = omega arith in
    let same : (run C.system p.steps C.opening q.given).events ≡ (reached C p).events =
    ap (λ given. (run C.system p.steps C.opening given).events) further.given
    ∙ ap (λ (r : Ran hosts C.system.State). r.events) (run_append C.system p.steps C.opening p.given further.more further.real) in
    (b.0, ap (λ n. (run C.system n C.opening q.given).events) (sym steps) ∙ b.1 ∙ ap (λ l. l ++ b.0) same)
