-- Where a run stands on its course, after one step more and after one answer more.
use Rattle.std.proofs.Common.{◌≡◌, ◌-◌, List, [], ◌∷◌, length, slice_get, Option, Some, Bool, true, false, IsTrue, not, ◌&&◌, refl, sym, ap, ◌∙◌, subst}
use Rattle.wasm_form.specs.declared.runtime.Trap.{Trap}
use Rattle.wasm_form.specs.declared.runtime.Answer.{Answer}
use Rattle.spec_safety.specs.spec_runs.Systems.{Status, Moving, Waits, Returned, Exited, Trapped, Ran}
use Rattle.spec_safety.specs.spec_runtime.Memories.{MemoryInstance}
use Rattle.spec_safety.specs.spec_runtime.Hosts.{HostCall, hosts, answer_fits}
use Rattle.spec_safety.specs.spec_runtime.Recorded.{Recorded, Stands, waits, FitsWait}
use Rattle.spec_safety.proofs.of_spec_runtime.Recorded.{stands_moved, stands_taken, stands_recorded}
use Rattle.spec_safety.specs.spec_runtime.Courses.{Course, reached, state_at, status_at, memory_at, IsAt, with_step, with_answer}

-- a run stands where its steps lead
stood : (C : Course) (x : Recorded) (q : Ran hosts C.system.State) → Stands C.system C.opening x q → IsAt C x
stood C x q stands = subst (λ r. Stands C.system C.opening x r) (sym stands.run) stands

same_state : (C : Course) (x : Recorded) (q : Ran hosts C.system.State) → Stands C.system C.opening x q → state_at C x ≡ q.state
same_state C x q stands = ap (λ (r : Ran hosts C.system.State). r.state) stands.run

-- The last answer is taken by the next step, and fits.
pub record TakesLast (C : Course) (x : Recorded) (call : HostCall) : Type 0 where
  pub answer : Answer
  pub last : slice_get x.answers (length x.answers - 1) ≡ Some answer
  pub fits : IsTrue (answer_fits call (memory_at C x) answer)
  pub stands : IsAt C (with_step x)
  pub reaches : state_at C (with_step x) ≡ C.system.take answer (state_at C x)

module _ (C : Course) (x : Recorded) (at : IsAt C x) where
  -- a run that goes on makes its step, and takes no answer
  pub at_moved : (t : C.system.State) → status_at C x ≡ Moving → C.system.step (state_at C x) ≡ Some t
      → (x.answered ≡ false) × IsAt C (with_step x) × (state_at C (with_step x) ≡ t)
  at_moved t moving made =
      let m = stands_moved C.system C.opening x (reached C x) t at moving made in
      (m.0, stood C (with_step x) m.1.0 m.1.1, same_state C (with_step x) m.1.0 m.1.1 ∙ m.1.2)

  -- one that waits takes the answer that is recorded
  pub at_taken : (call : HostCall) → x.answered ≡ true → status_at C x ≡ Waits call → TakesLast C x call
  at_taken call answered waiting =
      let t = stands_taken C.system C.opening x (reached C x) call at answered waiting in
      record {
        answer = t.answer;
        last = t.last;
        fits = t.fits;
        stands = stood C (with_step x) t.reached.0 t.reached.1;
        reaches = same_state C (with_step x) t.reached.0 t.reached.1 ∙ t.reached.2;
      }

  -- one answer more leaves it where it stands
  pub at_recorded : (call : HostCall) (a : Answer) → x.answered ≡ false → status_at C x ≡ Waits call → IsTrue (answer_fits call (memory_at C x) a)
      → IsAt C (with_answer x a) × (state_at C (with_answer x a) ≡ state_at C x)
  at_recorded call a unanswered waiting fits =
      let q : Ran hosts C.system.State = record (reached C x) { left = a ∷ [] } in
      let stands = stands_recorded C.system C.opening x (reached C x) call a at unanswered waiting fits in
      (stood C (with_answer x a) q stands, same_state C (with_answer x a) q stands)

-- ---- the answer that is recorded

-- it is recorded for a wait
pub answered_wait : (answered : Bool) (status : Status HostCall Trap) (call : HostCall) → status ≡ Waits call → not answered && waits status ≡ false → answered ≡ true
answered_wait true status call e h = refl
answered_wait false Moving call e h = absurd cc
answered_wait false (Waits called) call e h = absurd cc
answered_wait false Returned call e h = absurd cc
answered_wait false (Exited code) call e h = absurd cc
answered_wait false (Trapped why) call e h = absurd cc

-- what is read at the last place of the answers
pub read_last : (o : Option Answer) (answers items : List Answer) → answers ≡ items → o ≡ slice_get answers (length answers - 1) → slice_get items (length items - 1) ≡ o
read_last o answers items same e = sym (e ∙ ap (λ (l : List Answer). slice_get l (length l - 1)) same)

-- the call that is waited for, which an answer fits
pub waited_call : (a : Answer) (status : Status HostCall Trap) (memory : MemoryInstance) → FitsWait a status memory → (call : HostCall) × (status ≡ Waits call) × IsTrue (answer_fits call memory a)
waited_call a Moving memory h = absurd h
waited_call a (Waits call) memory h = (call, refl, h)
waited_call a Returned memory h = absurd h
waited_call a (Exited code) memory h = absurd h
waited_call a (Trapped why) memory h = absurd h
