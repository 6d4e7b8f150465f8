-- The answers of WASI to a run that was made are those that its table allows.
use Rattle.std.proofs.Common.{◌≡◌, ◌≤◌, ◌<◌, ℕ, zero, suc, Bool, true, false, List, [], ◌∷◌, ◌++◌, length, drop, slice_get, bytes_eq, Option, Some, None, ◌⊎◌, inl, inr, refl, sym, ap, ◌∙◌, subst, arith}
use Rattle.std.proofs.lemmas.List.{length-drop}
use Rattle.std.proofs.lemmas.Option.{slice_get_within}
use Rattle.spec_hosts.specs.wasm_form.declared.runtime.Trap.{Trap}
use Rattle.spec_hosts.specs.wasm_form.declared.runtime.Answer.{Answer}
use Rattle.spec_hosts.specs.spec_runs.Systems.{Status, Moving, Waits, Returned, Exited, Trapped, System, Ran, with_rest, only_if, next_at, next, event_at, event, run, run_from, after_events, IsReal}
use Rattle.spec_hosts.specs.spec_runtime.Memories.{MemoryInstance}
use Rattle.spec_hosts.specs.spec_runtime.Hosts.{HostCall, hosts, answer_fits}
use Rattle.spec_hosts.specs.spec_runtime.Courses.{Course}
use Rattle.spec_hosts.specs.declared.ran.Ran as ran
use Rattle.spec_hosts.specs.Devices.{Devices}
use Rattle.spec_hosts.specs.Calls.{wasi_name, wanted}
use Rattle.spec_hosts.specs.Hosted.{Embedder, OneOf, IsAnswered, IsHosted, Hosted}
use Rattle.spec_hosts.specs.Ends.{AreHosted}
use Rattle.spec_traces.specs.declared.trace.Trace.{Trace}
use Rattle.spec_traces.specs.declared.trace.TraceCall.{TraceCall}
use Rattle.spec_traces.specs.Traces.{answers_of, after, IsAsked, IsTraceOf}
use Rattle.spec_traces.specs.Lawful.{IsLawful}
use Rattle.replay_check.proofs.Left.{left_shrinks}
use Rattle.replay_check.proofs.Agreeing.{answer_at, traces_agree}

-- ---- lists

-- what stands in the front of a list
in_front : {A : Type 0} (xs ys : List A) (k : ℕ) (x : A) → k < length xs → slice_get (xs ++ ys) k ≡ Some x → slice_get xs k ≡ Some x
in_front [] ys k x lt e = absurd (omega arith)
in_front (z ∷ xs) ys zero x lt e = e
in_front (z ∷ xs) ys (suc k) x lt e = in_front xs ys k x (omega arith) e

-- ---- a step

rest_left : {X A : Type 0} (o : Option X) (rest : List A) (x : X × List A) → with_rest rest o ≡ Some x → rest ≡ x.1
rest_left None rest x e = absurd cc
rest_left (Some y) rest x e = let same : rest ≡ x.1 = cc in same

module _ (S : System hosts) where
  -- a wait takes the next answer
  wait_left : (call : HostCall) (s : S.State) (given : List Answer) (x : S.State × List Answer) → next_at S (Waits call) s given ≡ Some x → (a : Answer) × (given ≡ a ∷ x.1)
  wait_left call s [] x e = absurd cc
  wait_left call s (a ∷ given) x e = (a, ap (λ more. a ∷ more) (rest_left (only_if (answer_fits call (S.memory s) a) (S.take a s)) given x e))

  -- a step that is made leaves all answers and has no event, or takes the one of its event
  step_left : (status : Status HostCall Trap) (s : S.State) (given : List Answer) (x : S.State × List Answer) → next_at S status s given ≡ Some x
      → ((event_at status (S.memory s) ≡ []) × (given ≡ x.1)) ⊎ ((call : HostCall) × (a : Answer) × (event_at status (S.memory s) ≡ (call, S.memory s) ∷ []) × (given ≡ a ∷ x.1))
  step_left Moving s given x e = inl (refl, rest_left (S.step s) given x e)
  step_left (Waits call) s given x e = let taken = wait_left call s given x e in inr (call, taken.0, refl, taken.1)
  step_left Returned s given x e = absurd cc
  step_left (Exited code) s given x e = absurd cc
  step_left (Trapped why) s given x e = absurd cc

  run_next : (n : ℕ) (s : S.State) (given : List Answer) (x : S.State × List Answer) → next S s given ≡ Some x → run S (suc n) s given ≡ after_events (event S s) (run S n x.0 x.1)
  run_next n s given x e = ap (run_from S s given (run S n)) e

  -- the first event is that of a wait from which the run begins
  first_event : (m : ℕ) (s : S.State) (given : List Answer) (call : HostCall) → IsReal S m s given → S.status s ≡ Waits call → slice_get (run S m s given).events 0 ≡ Some (call, S.memory s)
  first_event zero s given call real waits = ap (λ status. slice_get (event_at status (S.memory s)) 0) waits
  first_event (suc m) s given call real waits =
      ap (λ (q : Ran hosts S.State). slice_get q.events 0) (run_next m s given real.0 real.1)
      ∙ ap (λ status. slice_get (event_at status (S.memory s) ++ (run S m real.0.0 real.0.1).events) 0) waits

  -- ---- a run

  -- what is so of a wait: it has this call, and all but so many answers are left
  pub record StandsBefore (k : ℕ) (given : List Answer) (call : HostCall) (q : Ran hosts S.State) : Type 0 where
    pub waits : S.status q.state ≡ Waits call
    pub left : q.left ≡ drop k given
    pub some : k < length given

  -- Its event is the one of this number, however far the run goes on.
  abbrev IsEvent : ℕ → HostCall → Ran hosts S.State → Ran hosts S.State → Type 0
  IsEvent k call q r = slice_get r.events k ≡ Some (call, S.memory q.state)

  event_there : (n m k : ℕ) (s : S.State) (given : List Answer) (call : HostCall) → n ≤ m → IsReal S m s given → StandsBefore k given call (run S n s given)
      → IsEvent k call (run S n s given) (run S m s given)
  event_there zero m k s given call few real h =
      let some = h.some in
      let none : k ≡ 0 = omega (arith, ap length h.left, length-drop k given, some) in
      subst (λ j. slice_get (run S m s given).events j ≡ Some (call, S.memory s)) (sym none) (first_event m s given call real h.waits)
  event_there (suc n) zero k s given call few real h = absurd (omega arith)
  event_there (suc n) (suc m) zero s given call few real h =
      let x = real.0 in
      let one = run_next n s given x real.1 in
      let more = run_next m s given x real.1 in
      let here : StandsBefore zero given call (after_events (event S s) (run S n x.0 x.1)) = subst (StandsBefore zero given call) one h in
      let there : IsEvent zero call (after_events (event S s) (run S n x.0 x.1)) (after_events (event S s) (run S m x.0 x.1)) =
      elim (step_left (S.status s) s given x real.1) [
        | inl own ↦
            let before : StandsBefore zero x.1 call (run S n x.0 x.1) =
            record { waits = here.waits; left = here.left ∙ own.1; some = subst (λ (g : List Answer). 0 < length g) own.1 here.some } in
            ap (λ es. slice_get (es ++ (run S m x.0 x.1).events) 0) own.0 ∙ event_there n m zero x.0 x.1 call (omega (arith, few)) real.2 before
        | inr taken ↦
            let fewer = left_shrinks S x.0 x.1 0 n (omega arith) in
            let all = ap length (here.left ∙ taken.3) in
            absurd (omega (arith, fewer, all))
      ]
      in
      subst (λ q. IsEvent zero call q (run S (suc m) s given)) (sym one) (subst (IsEvent zero call (after_events (event S s) (run S n x.0 x.1))) (sym more) there)
  event_there (suc n) (suc m) (suc k) s given call few real h =
      let x = real.0 in
      let one = run_next n s given x real.1 in
      let more = run_next m s given x real.1 in
      let here : StandsBefore (suc k) given call (after_events (event S s) (run S n x.0 x.1)) = subst (StandsBefore (suc k) given call) one h in
      let there : IsEvent (suc k) call (after_events (event S s) (run S n x.0 x.1)) (after_events (event S s) (run S m x.0 x.1)) =
      elim (step_left (S.status s) s given x real.1) [
        | inl own ↦
            let before : StandsBefore (suc k) x.1 call (run S n x.0 x.1) =
            record { waits = here.waits; left = here.left ∙ ap (drop (suc k)) own.1; some = subst (λ (g : List Answer). suc k < length g) own.1 here.some } in
            ap (λ es. slice_get (es ++ (run S m x.0 x.1).events) (suc k)) own.0 ∙ event_there n m (suc k) x.0 x.1 call (omega (arith, few)) real.2 before
        | inr taken ↦
            let size = ap length taken.3 in
            let some = here.some in
            let before : StandsBefore k x.1 call (run S n x.0 x.1) =
            record { waits = here.waits; left = here.left ∙ ap (drop (suc k)) taken.3; some = omega (arith, size, some) } in
            ap (λ es. slice_get (es ++ (run S m x.0 x.1).events) (suc k)) taken.2 ∙ event_there n m k x.0 x.1 call (omega (arith, few)) real.2 before
      ]
      in
      subst (λ q. IsEvent (suc k) call q (run S (suc m) s given)) (sym one) (subst (IsEvent (suc k) call (after_events (event S s) (run S n x.0 x.1))) (sym more) there)

-- ---- calls and their answers

module _ (E : Embedder) where
  as_many : (calls : List (HostCall × MemoryInstance)) (given : List Answer) (old new : Devices) → Hosted E calls given old new → length calls ≡ length given
  as_many [] [] old new h = refl
  as_many [] (a ∷ given) old new h = absurd h
  as_many (e ∷ calls) [] old new h = absurd h
  as_many (e ∷ calls) (a ∷ given) old new h = ap suc (as_many calls given h.0 new h.2)

  -- one of them
  hosted_at : (calls : List (HostCall × MemoryInstance)) (given : List Answer) (old new : Devices) (k : ℕ) (e : HostCall × MemoryInstance) (a : Answer) → Hosted E calls given old new
      → slice_get calls k ≡ Some e → slice_get given k ≡ Some a → (before : Devices) × (after : Devices) × IsHosted E e a before after
  hosted_at [] given old new k e a h call answer = absurd cc
  hosted_at (d ∷ calls) [] old new k e a h call answer = absurd h
  hosted_at (d ∷ calls) (b ∷ given) old new zero e a h call answer =
      let calls_same : d ≡ e = cc in
      let answers_same : b ≡ a = cc in
      (old, h.0, subst (λ a. IsHosted E e a old h.0) answers_same (subst (λ e. IsHosted E e b old h.0) calls_same h.1))
  hosted_at (d ∷ calls) (b ∷ given) old new (suc k) e a h call answer = hosted_at calls given h.0 new k e a h.2 call answer

-- what a call of a trace is where it is waited for
pub record IsCalled (c : TraceCall) (status : Status HostCall Trap) : Type 0 where
  pub call : HostCall
  pub waits : status ≡ Waits call
  pub from : call.host.module_name ≡ c.«module»
  pub name : call.host.name ≡ c.name
  pub args : call.args ≡ c.args

asked_as : (c : TraceCall) (status : Status HostCall Trap) (memory : MemoryInstance) → IsAsked c status memory → IsCalled c status
asked_as c (Waits call) memory is = record { call = call; waits = refl; from = is.0; name = is.1; args = is.2 }
asked_as c Moving memory is = absurd is
asked_as c Returned memory is = absurd is
asked_as c (Exited code) memory is = absurd is
asked_as c (Trapped why) memory is = absurd is

-- ---- a run that was made

module _ (C : Course) (E : Embedder) (r : ran.Ran) (t : Trace) (old new : Devices) (is : IsTraceOf C r t) where
  abbrev S : System hosts
  S = C.system

  over_trace : AreHosted S E C.opening r.steps r.answers old new → AreHosted S E C.opening t.steps (answers_of t) old new
  over_trace h =
      subst (λ n. AreHosted S E C.opening n (answers_of t) old new) (sym is.steps) (subst (λ given. AreHosted S E C.opening r.steps given old new) (sym is.answers) h)

  pub lawful : AreHosted S E C.opening r.steps r.answers old new → IsLawful E.arguments C t
  lawful hosted k c at wasi =
      let given = answers_of t in
      let h = over_trace hosted in
      let agrees = traces_agree C t is.traces k c at in
      let q = after C t c.steps in
      let memory = S.memory q.state in
      let asked = asked_as c (S.status q.state) memory agrees.waited.asked in
      let answer = answer_at C t k c at in
      let before : StandsBefore S k given asked.call q = record { waits = asked.waits; left = agrees.waited.left; some = slice_get_within given k c.answer answer } in
      let there = event_there S c.steps t.steps k C.opening given asked.call agrees.made.few is.traces.made.real before in
      let many = as_many E h.0 given old new h.2 in
      let within = slice_get_within given k c.answer answer in
      let call : slice_get h.0 k ≡ Some (asked.call, memory) =
      in_front h.0 (event S (run S t.steps C.opening given).state) k (asked.call, memory) (omega (arith, many, within)) (ap (λ es. slice_get es k) (sym h.1) ∙ there)
      in
      let one = hosted_at E h.0 given old new k (asked.call, memory) c.answer h.2 call answer in
      let is_wasi : bytes_eq asked.call.host.module_name wasi_name ≡ true = ap (λ m. bytes_eq m wasi_name) asked.from ∙ wasi in
      let answered : IsAnswered (wanted E.arguments memory asked.call.host.name asked.call.args) c.answer one.0 one.1 =
      subst (λ b. OneOf b (IsAnswered (wanted E.arguments memory asked.call.host.name asked.call.args) c.answer one.0 one.1) (E.callback asked.call memory c.answer × (one.1 ≡ one.0))) is_wasi one.2
      in (
        one.0,
        one.1,
        subst (λ args. IsAnswered (wanted E.arguments memory c.name args) c.answer one.0 one.1) asked.args
            (subst (λ name. IsAnswered (wanted E.arguments memory name asked.call.args) c.answer one.0 one.1) asked.name answered),
      )
