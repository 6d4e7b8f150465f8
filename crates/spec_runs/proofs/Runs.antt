-- How runs grow by a step and by further answers, and that agreement is an equivalence.
use Rattle.std.proofs.Common.{◌≡◌, ℕ, zero, suc, List, [], ◌∷◌, ◌++◌, Option, Some, None, refl, sym, ap, ◌∙◌, option_map, append_assoc}
use Rattle.spec_runs.specs.Systems.{Outside, Status, Moving, Waits, Returned, Exited, Trapped, System, with_rest, only_if, next_at, next, event_at, event, Ran, after_events, run_from, run, with_next, IsReal}

-- a moving state makes its step and takes no answer
pub next_moving : {O : Outside} (S : System O) (s s' : S.State) (answers : List O.Answer) → S.status s ≡ Moving
    → S.step s ≡ Some s' → next S s answers ≡ Some (s', answers)
next_moving S s s' answers moving step = ap (λ status. next_at S status s answers) moving ∙ ap (with_rest answers) step

-- a moving state has no event
pub event_moving : {O : Outside} (S : System O) (s : S.State) → S.status s ≡ Moving → event S s ≡ []
event_moving S s moving = ap (λ status. event_at status (S.memory s)) moving

-- one step more, and then the events before it, or the other way round
with_next_after : {O : Outside} (S : System O) (events : List (O.Call × O.Memory)) (r : Ran O S.State) (o : Option (S.State × List O.Answer))
    → after_events events (with_next S r o) ≡ with_next S (after_events events r) o
with_next_after S events r None = refl
with_next_after {O} S events r (Some x) = ap (λ l. let q : Ran O S.State = record { events = l; state = x.0; left = x.1 } in q) (sym (append_assoc events r.events (event S x.0)))

-- the n+1st step is one step from where n steps lead
pub run_last : {O : Outside} (S : System O) (n : ℕ) (s : S.State) (answers : List O.Answer)
    → run S (suc n) s answers ≡ with_next S (run S n s answers) (next S (run S n s answers).state (run S n s answers).left)
run_last {O} S zero s answers = go (next S s answers)
  where
    go : (o : Option (S.State × List O.Answer)) → run_from S s answers (run S zero) o ≡ with_next S (run S zero s answers) o
    go None = refl
    go (Some x) = refl
run_last {O} S (suc n) s answers = go (next S s answers) refl (λ x. run_last S n x.0 x.1)
  where
    go : (o : Option (S.State × List O.Answer)) → next S s answers ≡ o
        → ((x : S.State × List O.Answer) → run S (suc n) x.0 x.1 ≡ with_next S (run S n x.0 x.1) (next S (run S n x.0 x.1).state (run S n x.0 x.1).left))
        → run_from S s answers (run S (suc n)) o ≡ with_next S (run_from S s answers (run S n) o) (next S (run_from S s answers (run S n) o).state (run_from S s answers (run S n) o).left)
    go None e more = rw e
    go (Some x) e more = ap (after_events (event S s)) (more x) ∙ with_next_after S (event S s) (run S n x.0 x.1) (next S (run S n x.0 x.1).state (run S n x.0 x.1).left)

-- what comes next after a step and n more, and after n steps from where it leads
next_after : {O : Outside} (S : System O) (n : ℕ) (s : S.State) (answers : List O.Answer) (x : S.State × List O.Answer)
    → next S s answers ≡ Some x
    → next S (run S (suc n) s answers).state (run S (suc n) s answers).left ≡ next S (run S n x.0 x.1).state (run S n x.0 x.1).left
next_after S n s answers x e = rw e refl

-- n real steps and one from where they lead are n+1 real steps
pub real_last : {O : Outside} (S : System O) (n : ℕ) (s : S.State) (answers : List O.Answer) (x : S.State × List O.Answer)
    → IsReal S n s answers → next S (run S n s answers).state (run S n s answers).left ≡ Some x
    → IsReal S (suc n) s answers
real_last S zero s answers x real e = (x, e, tt)
real_last S (suc n) s answers x real e = (real.0, real.1, real_last S n real.0.0 real.0.1 x real.2 (sym (next_after S n s answers real.0 real.1) ∙ e))

-- and n+1 real steps are n of them and one from where they lead
pub real_split : {O : Outside} (S : System O) (n : ℕ) (s : S.State) (answers : List O.Answer)
    → IsReal S (suc n) s answers
    → IsReal S n s answers × ((x : S.State × List O.Answer) × (next S (run S n s answers).state (run S n s answers).left ≡ Some x))
real_split S zero s answers real = (tt, (real.0, real.1))
real_split S (suc n) s answers real =
    let i = real_split S n real.0.0 real.0.1 real.2 in
    ((real.0, real.1, i.0), (i.1.0, next_after S n s answers real.0 real.1 ∙ i.1.1))

-- further answers are left over by a step that is made
rest_append : {X A : Type 0} (o : Option X) (answers further : List A) (x : X × List A) → with_rest answers o ≡ Some x
    → with_rest (answers ++ further) o ≡ Some (x.0, x.1 ++ further)
rest_append None answers further x e = cc
rest_append {X} {A} (Some y) answers further x e = ap (option_map (λ (z : X × List A). (z.0, z.1 ++ further))) e

-- the same, by how the state stands
next_at_append : {O : Outside} (S : System O) (status : Status O.Call O.Trap) (s : S.State) (answers further : List O.Answer) (x : S.State × List O.Answer)
    → next_at S status s answers ≡ Some x → next_at S status s (answers ++ further) ≡ Some (x.0, x.1 ++ further)
next_at_append S Moving s answers further x e = rest_append (S.step s) answers further x e
next_at_append S (Waits call) s [] further x e = cc
next_at_append {O} S (Waits call) s (answer ∷ rest) further x e = rest_append (only_if (O.fits call (S.memory s) answer) (S.take answer s)) rest further x e
next_at_append S Returned s answers further x e = cc
next_at_append S (Exited code) s answers further x e = cc
next_at_append S (Trapped trap) s answers further x e = cc

-- further answers change nothing of a step that is made, and are left after it
pub next_append : {O : Outside} (S : System O) (s : S.State) (answers further : List O.Answer) (x : S.State × List O.Answer)
    → next S s answers ≡ Some x → next S s (answers ++ further) ≡ Some (x.0, x.1 ++ further)
next_append S s answers further x e = next_at_append S (S.status s) s answers further x e

-- with further answers, real steps are real
pub real_append : {O : Outside} (S : System O) (n : ℕ) (s : S.State) (answers further : List O.Answer)
    → IsReal S n s answers → IsReal S n s (answers ++ further)
real_append S zero s answers further real = tt
real_append S (suc n) s answers further real = ((real.0.0, real.0.1 ++ further), next_append S s answers further real.0 real.1, real_append S n real.0.0 real.0.1 further real.2)

-- further answers change nothing of n real steps, and are left after them
pub run_append : {O : Outside} (S : System O) (n : ℕ) (s : S.State) (answers further : List O.Answer)
    → IsReal S n s answers
    → run S n s (answers ++ further) ≡ record (run S n s answers) { left = (run S n s answers).left ++ further }
run_append S zero s answers further real = refl
run_append S (suc n) s answers further real =
    let e = next_append S s answers further real.0 real.1 in
    rw (e, real.1) (ap (after_events (event S s)) (run_append S n real.0.0 real.0.1 further real.2))
