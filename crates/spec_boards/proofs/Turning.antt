-- A turn makes real steps, and stops where it is due.
use Rattle.std.proofs.Common.{◌≡◌, ◌≤◌, ◌<◌, ℕ, zero, suc, ◌+◌, ◌-◌, Bool, true, false, List, [], ◌∷◌, nat_eq, Option, Some, None, refl, sym, ap, ap₂, ◌∙◌, arith}
use Rattle.std.specs.Prelude.{unwrap_or}
use Rattle.std.proofs.lemmas.Bool.Decides.{nat_tests}
use Rattle.std.specs.List.{All}
use Rattle.spec_hosts.specs.wasm_form.declared.runtime.Trap.{Trap}
use Rattle.spec_hosts.specs.wasm_form.declared.runtime.Answer.{Answer}
use Rattle.spec_hosts.specs.spec_runs.Systems.{Status, Moving, Waits, Returned, Exited, Trapped, next_at, next}
use Rattle.spec_hosts.proofs.of_spec_runs.Runs.{real_last}
use Rattle.spec_hosts.specs.spec_runtime.Memories.{MemoryInstance}
use Rattle.spec_hosts.specs.spec_runtime.Hosts.{HostCall}
use Rattle.spec_hosts.specs.spec_runtime.Courses.{Course}
use Rattle.spec_boards.specs.declared.turn.Stop.{Stop}
use Rattle.spec_boards.specs.declared.turn.Stop.TheVariants as stop
use Rattle.spec_boards.specs.Turns.{Place, reached, takes, stop_by, stop_at, one_step, Turned, on_stop, turned, turn_of}
use Rattle.spec_boards.specs.Laws.{IsRealPlace, NeverStuck, IsTurn}

-- where a turn has no step left there is a cause to stop
stop_spent : (limited deep : Bool) (left : List Answer) (memory : MemoryInstance) (status : Status HostCall Trap)
    → stop_by limited true deep left memory status ≡ Some (unwrap_or (stop_by limited true deep left memory status) stop.Spent)
stop_spent true deep left memory Moving = refl
stop_spent false deep left memory Moving = refl
stop_spent true deep left memory (Waits call) = refl
stop_spent false deep left memory (Waits call) = go (takes call memory left) refl
  where
    go : (b : Bool) → takes call memory left ≡ b → stop_by false true deep left memory (Waits call) ≡ Some (unwrap_or (stop_by false true deep left memory (Waits call)) stop.Spent)
    go true q = rw q refl
    go false q = rw q refl
stop_spent limited deep left memory Returned = refl
stop_spent limited deep left memory (Exited code) = refl
stop_spent limited deep left memory (Trapped why) = refl

-- one that is spent has none left
only_spent : (limited spent deep : Bool) (left : List Answer) (memory : MemoryInstance) (status : Status HostCall Trap)
    → stop_by limited spent deep left memory status ≡ Some stop.Spent → spent ≡ true
only_spent limited true deep left memory status e = refl
only_spent true false deep left memory Moving e = absurd cc
only_spent false false true left memory Moving e = absurd cc
only_spent false false false left memory Moving e = absurd cc
only_spent true false deep left memory (Waits call) e = absurd cc
only_spent false false deep left memory (Waits call) e = go (takes call memory left) refl
  where
    go : (b : Bool) → takes call memory left ≡ b → false ≡ true
    go true q = absurd (let bad : None ≡ Some stop.Spent = rw q at e in cc)
    go false q = absurd (let bad : Some stop.Waits ≡ Some stop.Spent = rw q at e in cc)
only_spent limited false deep left memory Returned e = absurd cc
only_spent limited false deep left memory (Exited code) e = absurd cc
only_spent limited false deep left memory (Trapped why) e = absurd cc

module _ (C : Course) (most : ℕ) where
  abbrev pub later : Place → ℕ → Place
  later p k = record p { steps = p.steps + k }

  later_none : (p : Place) → later p 0 ≡ p
  later_none p = (let e : p.steps + 0 ≡ p.steps = omega arith in λ i. record p { steps = e i })

  later_more : (p : Place) (k : ℕ) → later (one_step p) k ≡ later p (suc k)
  later_more p k = (let e : suc p.steps + k ≡ p.steps + suc k = omega arith in λ i. record p { steps = e i })

  -- further steps of a turn
  record Further (slice : ℕ) (p : Place) (made : ℕ) (t : Turned) : Type 0 where
    pub more : ℕ
    pub made_is : t.made ≡ made + more
    pub same : t.place ≡ later p more
    pub few : more ≤ slice
    pub free : (k : ℕ) → k < more → (rest : ℕ) → rest + k ≡ slice → stop_at C most rest (later p k) ≡ None
    pub due : (rest : ℕ) → rest + more ≡ slice → stop_at C most rest t.place ≡ Some t.why

  stopped : (slice : ℕ) (p : Place) (made : ℕ) (why : Stop) → stop_at C most slice p ≡ Some why → Further slice p made (record { place = p; made = made; why = why })
  stopped slice p made why e = record {
    more = 0;
    made_is = omega arith;
    same = sym (later_none p);
    few = omega arith;
    free = λ k lt. absurd (omega arith);
    due = λ rest q. (let same : rest ≡ slice = omega arith in ap (λ n. stop_at C most n p) same ∙ e);
  }

  further : (slice : ℕ) (p : Place) (made : ℕ) → Further slice p made (turned C most slice p made)
  further zero p made =
      stopped 0 p made (unwrap_or (stop_at C most 0 p) stop.Spent)
      (let r = reached C p in stop_spent (nat_eq p.steps most) (C.deep r.state) r.left (C.system.memory r.state) (C.system.status r.state))
  further (suc slice) p made = go (stop_at C most (suc slice) p) refl (further slice (one_step p) (suc made))
    where
      go : (o : Option Stop) → stop_at C most (suc slice) p ≡ o → Further slice (one_step p) (suc made) (turned C most slice (one_step p) (suc made))
          → Further (suc slice) p made (on_stop p made (turned C most slice (one_step p) (suc made)) o)
      go (Some why) q i = stopped (suc slice) p made why q
      go None q i =
          let made_is = i.made_is in
          let few = i.few in
          record {
            more = suc i.more;
            made_is = omega arith;
            same = i.same ∙ later_more p i.more;
            few = omega arith;
            free = first;
            due = λ rest e. i.due rest (omega arith);
          }
        where
          first : (k : ℕ) → k < suc i.more → (rest : ℕ) → rest + k ≡ suc slice → stop_at C most rest (later p k) ≡ None
          first zero lt rest e = (let same : rest ≡ suc slice = omega arith in ap₂ (stop_at C most) same (later_none p) ∙ q)
          first (suc k) lt rest e = ap (stop_at C most rest) (sym (later_more p k)) ∙ i.free k (omega arith) rest (omega arith)

  pub is_turn : (slice : ℕ) (p : Place) → IsTurn C most slice p (turn_of C most slice p)
  is_turn slice p =
      let f = further slice p 0 in
      let same : (turn_of C most slice p).made ≡ f.more = (let e = f.made_is in omega arith) in
      let few = f.few in
      record {
        same = f.same ∙ ap (later p) (sym same);
        few = omega arith;
        free = λ k lt rest e. f.free k (omega arith) rest e;
        due = λ rest e. f.due rest (omega arith);
        spent = λ e.
            let r = reached C (turn_of C most slice p).place in
            let none : nat_eq (slice - f.more) 0 ≡ true =
            only_spent (nat_eq (turn_of C most slice p).place.steps most) (nat_eq (slice - f.more) 0) (C.deep r.state) r.left (C.system.memory r.state) (C.system.status r.state)
            (f.due (slice - f.more) (omega arith) ∙ ap Some e) in
            let all : slice - f.more ≡ 0 = grind (arith, nat_tests) in
            omega arith;
      }

  -- ---- its steps are real

  takes_step : (s : C.system.State) (left : List Answer) (call : HostCall) → takes call (C.system.memory s) left ≡ true
      → (x : C.system.State × List Answer) × (next_at C.system (Waits call) s left ≡ Some x)
  takes_step s [] call fits = absurd cc
  takes_step s (a ∷ left) call fits = ((C.system.take a s, left), rw fits refl)

  module _ (Such : Answer → Type 0) where
    -- where no cause to stop is due there is a step
    pub goes : NeverStuck Such C → (slice : ℕ) (p : Place) → All Such p.given → IsRealPlace C p → stop_at C most slice p ≡ None
        → (x : C.system.State × List Answer) × (next C.system (reached C p).state (reached C p).left ≡ Some x)
    goes never slice p such real e = go (C.system.status (reached C p).state) refl
      where
        s : C.system.State
        s = (reached C p).state

        left : List Answer
        left = (reached C p).left

        waiting : (limited spent : Bool) (call : HostCall) → stop_by limited spent (C.deep s) left (C.system.memory s) (Waits call) ≡ None → takes call (C.system.memory s) left ≡ true
        waiting true spent call q = absurd cc
        waiting false spent call q = taken (takes call (C.system.memory s) left) refl
          where
            taken : (b : Bool) → takes call (C.system.memory s) left ≡ b → takes call (C.system.memory s) left ≡ true
            taken true r = r
            taken false r = absurd (let bad : Some stop.Waits ≡ None = rw r at q in cc)

        go : (status : Status HostCall Trap) → C.system.status s ≡ status → (x : C.system.State × List Answer) × (next C.system s left ≡ Some x)
        go Moving q =
            let t = never p such real q in
            ((t.0, left), rw (q, t.1) refl)
        go (Waits call) q =
            let none : stop_by (nat_eq p.steps most) (nat_eq slice 0) (C.deep s) left (C.system.memory s) (Waits call) ≡ None = rw q at e in
            let x = takes_step s left call (waiting (nat_eq p.steps most) (nat_eq slice 0) call none) in
            (x.0, rw q x.1)
        go Returned q = absurd (let bad : Some stop.Ended ≡ None = rw q at e in cc)
        go (Exited code) q = absurd (let bad : Some stop.Ended ≡ None = rw q at e in cc)
        go (Trapped why) q = absurd (let bad : Some stop.Ended ≡ None = rw q at e in cc)

    pub real_step : NeverStuck Such C → (slice : ℕ) (p : Place) → All Such p.given → IsRealPlace C p → stop_at C most slice p ≡ None → IsRealPlace C (one_step p)
    real_step never slice p such real e = (let x = goes never slice p such real e in real_last C.system p.steps C.opening p.given x.0 real x.1)

    pub real_turned : NeverStuck Such C → (slice : ℕ) (p : Place) (made : ℕ) → All Such p.given → IsRealPlace C p → IsRealPlace C (turned C most slice p made).place
    real_turned never zero p made such real = real
    real_turned never (suc slice) p made such real =
        go (stop_at C most (suc slice) p) refl (λ e. real_turned never slice (one_step p) (suc made) such (real_step never (suc slice) p such real e))
      where
        go : (o : Option Stop) → stop_at C most (suc slice) p ≡ o → (stop_at C most (suc slice) p ≡ None → IsRealPlace C (turned C most slice (one_step p) (suc made)).place)
            → IsRealPlace C (on_stop p made (turned C most slice (one_step p) (suc made)) o).place
        go (Some why) q more = real
        go None q more = more q

  -- ---- the rest of a turn

  -- a turn stops where a cause is due
  pub turned_stops : (slice : ℕ) (p : Place) (made : ℕ) (why : Stop) → stop_at C most slice p ≡ Some why
      → turned C most slice p made ≡ (record { place = p; made = made; why = why })
  turned_stops zero p made why e = ap (λ (o : Option Stop). let t : Turned = record { place = p; made = made; why = unwrap_or o stop.Spent } in t) e
  turned_stops (suc slice) p made why e = ap (on_stop p made (turned C most slice (one_step p) (suc made))) e

  -- where no cause is due before any of so many steps, the rest of the turn is that from where these lead
  pub turned_goes_on : (k rest : ℕ) (p : Place) (made : ℕ) → ((j : ℕ) → j < k → (left : ℕ) → left + j ≡ rest + k → stop_at C most left (later p j) ≡ None)
      → turned C most (rest + k) p made ≡ turned C most rest (later p k) (made + k)
  turned_goes_on zero rest p made free =
      let count : rest + 0 ≡ rest = omega arith in
      let same : made + 0 ≡ made = omega arith in
      ap (λ n. turned C most n p made) count ∙ ap₂ (turned C most rest) (sym (later_none p)) (sym same)
  turned_goes_on (suc k) rest p made free =
      let count : rest + suc k ≡ suc (rest + k) = omega arith in
      let now : stop_at C most (suc (rest + k)) p ≡ None = ap (stop_at C most (suc (rest + k))) (sym (later_none p)) ∙ free 0 (omega arith) (suc (rest + k)) (omega arith) in
      let more = turned_goes_on k rest (one_step p) (suc made)
      (λ j lt left e. ap (stop_at C most left) (later_more p j) ∙ free (suc j) (omega arith) left (omega arith)) in
      let same : suc made + k ≡ made + suc k = omega arith in
      ap (λ n. turned C most n p made) count ∙ ap (on_stop p made (turned C most (rest + k) (one_step p) (suc made))) now
      ∙ more ∙ ap₂ (turned C most rest) (later_more p k) same

  -- it leads no less far than it has come
  pub turned_further : (slice : ℕ) (p : Place) (made : ℕ) → p.steps ≤ (turned C most slice p made).place.steps
  turned_further slice p made =
      let f = further slice p made in
      let same : (turned C most slice p made).place.steps ≡ p.steps + f.more = ap (λ (q : Place). q.steps) f.same in
      omega arith
