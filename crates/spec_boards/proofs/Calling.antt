-- What a program has called, and how that grows by its steps and by an answer.
use Rattle.std.proofs.Common.{◌≡◌, ℕ, zero, suc, Bool, true, false, List, [], ◌∷◌, ◌++◌, nat_eq, Option, Some, None, refl, sym, ap, ◌∙◌, subst, append-nil}
use Rattle.std.specs.Prelude.{IsTrue}
use Rattle.std.specs.List.{All}
use Rattle.spec_hosts.specs.wasm_form.declared.runtime.Trap.{Trap}
use Rattle.spec_hosts.specs.wasm_form.declared.runtime.Answer.{Answer}
use Rattle.spec_hosts.specs.spec_runs.Systems.{Status, Moving, Waits, Returned, Exited, Trapped, Ran, with_rest, only_if, next_at, event_at, event, with_next}
use Rattle.spec_hosts.specs.spec_runtime.Memories.{MemoryInstance}
use Rattle.spec_hosts.specs.spec_runtime.Hosts.{HostCall, hosts, answer_fits}
use Rattle.spec_hosts.specs.spec_runtime.Recorded.{AreLeft}
use Rattle.spec_hosts.specs.spec_runtime.Courses.{Course}
use Rattle.spec_hosts.proofs.of_spec_runs.Runs.{run_last, run_append, real_append}
use Rattle.spec_boards.specs.declared.turn.Stop.{Stop}
use Rattle.spec_boards.specs.declared.turn.Stop.TheVariants as stop
use Rattle.spec_boards.specs.Turns.{Place, reached, stop_by, stop_at, one_step, on_stop, turned}
use Rattle.spec_boards.specs.Laws.{IsRealPlace, NeverStuck, unserved}
use Rattle.spec_boards.proofs.Turning.{goes, real_step}

module _ (C : Course) where
  -- so many calls of it were answered, and what is left of the answers is none, or the one to the call that it waits for
  pub record Stands (p : Place) (calls : List (HostCall × MemoryInstance)) : Type 0 where
    pub real : IsRealPlace C p
    pub answered : Bool
    pub left : AreLeft answered (C.system.status (reached C p).state) (C.system.memory (reached C p).state) (reached C p).left
    pub served : (reached C p).events ≡ calls ++ unserved (reached C p).left (event C.system (reached C p).state)

  -- a step takes the answer that is left, if one is
  step_left : (status : Status HostCall Trap) (s : C.system.State) (answered : Bool) (left : List Answer) (x : C.system.State × List Answer)
      → AreLeft answered status (C.system.memory s) left → next_at C.system status s left ≡ Some x
      → (x.1 ≡ []) × (unserved left (event_at status (C.system.memory s)) ≡ [])
  step_left Moving s false left x are e = go (C.system.step s) e
    where
      go : (o : Option C.system.State) → with_rest left o ≡ Some x → (x.1 ≡ []) × (unserved left [] ≡ [])
      go None q = absurd cc
      go (Some t) q = (let same : left ≡ x.1 = cc in (sym same ∙ are, rw are refl))
  step_left Moving s true left x are e = absurd are
  step_left (Waits call) s false [] x are e = absurd cc
  step_left (Waits call) s false (a ∷ left) x are e = absurd (let bad : a ∷ left ≡ [] = are in cc)
  step_left (Waits call) s true [] x are e = absurd are
  step_left (Waits call) s true (a ∷ []) x are e = go (only_if (answer_fits call (C.system.memory s) a) (C.system.take a s)) e
    where
      go : (o : Option C.system.State) → with_rest [] o ≡ Some x → (x.1 ≡ []) × (unserved (a ∷ []) ((call, C.system.memory s) ∷ []) ≡ [])
      go None q = absurd cc
      go (Some t) q = (let same : [] ≡ x.1 = cc in (sym same, refl))
  step_left (Waits call) s true (a ∷ b ∷ left) x are e = absurd are
  step_left Returned s answered left x are e = absurd cc
  step_left (Exited code) s answered left x are e = absurd cc
  step_left (Trapped why) s answered left x are e = absurd cc

  stands_more : (Such : Answer → Type 0) → NeverStuck Such C → (most slice : ℕ) (p : Place) (calls : List (HostCall × MemoryInstance)) → All Such p.given
      → Stands p calls → stop_at C most slice p ≡ None → Stands (one_step p) calls
  stands_more Such never most slice p calls such stands e =
      let x = goes C most Such never slice p such stands.real e in
      let r = reached C p in
      let grown : reached C (one_step p) ≡ with_next C.system r (Some x.0) = run_last C.system p.steps C.opening p.given ∙ ap (with_next C.system r) x.1 in
      let taken = step_left (C.system.status r.state) r.state stands.answered r.left x.0 stands.left x.1 in
      let before : r.events ≡ calls = stands.served ∙ ap (λ l. calls ++ l) taken.1 ∙ append-nil calls in
      record {
        real = real_step C most Such never slice p such stands.real e;
        answered = false;
        left = ap (λ (q : Ran hosts C.system.State). q.left) grown ∙ taken.0;
        served = ap (λ (q : Ran hosts C.system.State). q.events) grown ∙ ap (λ l. l ++ event C.system x.0.0) before
            ∙ ap (λ l. calls ++ unserved l (event C.system x.0.0)) (sym taken.0)
            ∙ ap (λ (q : Ran hosts C.system.State). calls ++ unserved q.left (event C.system q.state)) (sym grown);
      }

  pub stands_turned : (Such : Answer → Type 0) → NeverStuck Such C → (most slice : ℕ) (p : Place) (made : ℕ) (calls : List (HostCall × MemoryInstance)) → All Such p.given
      → Stands p calls → Stands (turned C most slice p made).place calls
  stands_turned Such never most zero p made calls such stands = stands
  stands_turned Such never most (suc slice) p made calls such stands =
      go (stop_at C most (suc slice) p) refl
      (λ e. stands_turned Such never most slice (one_step p) (suc made) calls such (stands_more Such never most (suc slice) p calls such stands e))
    where
      go : (o : Option Stop) → stop_at C most (suc slice) p ≡ o → (stop_at C most (suc slice) p ≡ None → Stands (turned C most slice (one_step p) (suc made)).place calls)
          → Stands (on_stop p made (turned C most slice (one_step p) (suc made)) o).place calls
      go (Some why) q more = stands
      go None q more = more q

  -- the call that it waits for is answered
  pub stands_answered : (p : Place) (calls : List (HostCall × MemoryInstance)) (call : HostCall) (a : Answer) → Stands p calls
      → C.system.status (reached C p).state ≡ Waits call → (reached C p).left ≡ [] → answer_fits call (C.system.memory (reached C p).state) a ≡ true
      → Stands (record p { given = p.given ++ a ∷ [] }) (calls ++ (call, C.system.memory (reached C p).state) ∷ [])
  stands_answered p calls call a stands waits none fits =
      let r = reached C p in
      let event_is : event C.system r.state ≡ (call, C.system.memory r.state) ∷ [] = ap (λ st. event_at st (C.system.memory r.state)) waits in
      let grown : reached C (record p { given = p.given ++ a ∷ [] }) ≡ record r { left = a ∷ [] } =
      run_append C.system p.steps C.opening p.given (a ∷ []) stands.real ∙ ap (λ l. record r { left = l ++ a ∷ [] }) none in
      let left : AreLeft true (C.system.status r.state) (C.system.memory r.state) (a ∷ []) =
      subst (λ st. AreLeft true st (C.system.memory r.state) (a ∷ [])) (sym waits) (fits_true fits) in
      record {
        real = real_append C.system p.steps C.opening p.given (a ∷ []) stands.real;
        answered = true;
        left = subst (λ (q : Ran hosts C.system.State). AreLeft true (C.system.status q.state) (C.system.memory q.state) q.left) (sym grown) left;
        served = ap (λ (q : Ran hosts C.system.State). q.events) grown
            ∙ stands.served ∙ ap (λ l. calls ++ unserved l (event C.system r.state)) none ∙ ap (λ l. calls ++ l) event_is
            ∙ sym (append-nil (calls ++ (call, C.system.memory r.state) ∷ []))
            ∙ ap (λ (q : Ran hosts C.system.State). (calls ++ (call, C.system.memory r.state) ∷ []) ++ unserved q.left (event C.system q.state)) (sym grown);
      }
    where
      fits_true : {b : Bool} → b ≡ true → IsTrue b
      fits_true e = e

  -- at a call a turn stops where it waits without an answer
  pub waits_none : (most slice : ℕ) (p : Place) (call : HostCall) (answered : Bool) → AreLeft answered (C.system.status (reached C p).state) (C.system.memory (reached C p).state) (reached C p).left
      → C.system.status (reached C p).state ≡ Waits call → stop_at C most slice p ≡ Some stop.Waits → (reached C p).left ≡ []
  waits_none most slice p call answered are waits e = go answered (reached C p).left refl (subst (λ st. AreLeft answered st (C.system.memory (reached C p).state) (reached C p).left) waits are)
    where
      memory : MemoryInstance
      memory = C.system.memory (reached C p).state

      go : (answered : Bool) (left : List Answer) → (reached C p).left ≡ left → AreLeft answered (Waits call) memory (reached C p).left → (reached C p).left ≡ []
      go false left q is = is
      go true [] q is = q
      go true (a ∷ []) q is =
          let fits : answer_fits call memory a ≡ true = subst (λ l. AreLeft true (Waits call) memory l) q is in
          absurd (bad (nat_eq p.steps most) (nat_eq slice 0) fits (let was : stop_by (nat_eq p.steps most) (nat_eq slice 0) (C.deep (reached C p).state) (a ∷ []) memory (Waits call) ≡ Some stop.Waits = rw (q, waits) at e in was))
        where
          bad : (limited spent : Bool) → answer_fits call memory a ≡ true → stop_by limited spent (C.deep (reached C p).state) (a ∷ []) memory (Waits call) ≡ Some stop.Waits → ⊥
          bad true spent fits q = absurd cc
          bad false true fits q = (let no : Some stop.Spent ≡ Some stop.Waits = rw fits at q in absurd cc)
          bad false false fits q = (let no : None ≡ Some stop.Waits = rw fits at q in absurd cc)
      go true (a ∷ c ∷ left) q is = absurd (let bad : AreLeft true (Waits call) memory (a ∷ c ∷ left) = subst (λ l. AreLeft true (Waits call) memory l) q is in bad)
