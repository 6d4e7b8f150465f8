-- A run of a module that agrees within a cost with another run ends as that does, within the limits.
use Rattle.std.proofs.Common.{◌≡◌, ℕ, suc, ◌+◌, ◌*◌, ◌<◌, ◌≤◌, List, Option, Some, None, Bool, true, false, true≢false, refl, sym, ap, ◌∙◌, subst, ⊎_elim, arith}
use Rattle.std.proofs.lemmas.Bool.{cases_lt}
use Rattle.spec_hosts.specs.wasm_form.declared.runtime.Answer.{Answer}
use Rattle.spec_hosts.specs.wasm_form.declared.runtime.Trap.{Trap}
use Rattle.spec_loading.specs.wasm_form.declared.module.Module.{Module}
use Rattle.spec_hosts.specs.spec_runs.Systems.{Status, Moving, Waits, Returned, Exited, Trapped, System, Ran, with_rest, next_at, next, run, IsReal}
use Rattle.spec_hosts.specs.spec_runs.Agreement.{Alike}
use Rattle.spec_hosts.specs.spec_runs.Costs.{spent, made, AgreeWithin}
use Rattle.spec_hosts.proofs.of_spec_runs.Costs.{made_most}
use Rattle.spec_hosts.proofs.of_spec_runs.Runs.{run_last}
use Rattle.spec_hosts.specs.spec_runtime.Hosts.{HostCall, hosts}
use Rattle.spec_loading.specs.spec_execution.Limits.{most_activations, most_values}
use Rattle.spec_loading.specs.spec_execution.OneModule.{ModuleState, module_system, module_too_deep}
use Rattle.spec_loading.specs.SetCosts.{module_depth}
use Rattle.spec_hosts.specs.declared.ran.Ran as told
use Rattle.spec_hosts.specs.declared.ran.RunEnd.{RunEnd}
use Rattle.spec_hosts.specs.declared.ran.RunEnd.TheVariants as end
use Rattle.spec_hosts.specs.Ends.{are_many, taken_by, is_due, goes_on, EndsAs, RunsTo}
use Rattle.spec_limits.specs.Ending.{EndsByItself, IsAsWide}
use Rattle.spec_limits.proofs.Made.{made_are_real, run_of_made, real_next}
use Rattle.spec_limits.proofs.Ended.{end_of, stays_ended, ends_later, one_end, ended_by_itself, ends_as, end_is_end, not_moving, same_taken}
use Rattle.spec_limits.proofs.Shallow.{not_deep}

-- whether a limit is due, by how the run stands
pub due_at : (S : System hosts) (deep : S.State → Bool) (s : S.State) (given : List Answer) (status : Status HostCall Trap) → S.status s ≡ status
    → (status ≡ Moving → deep s ≡ false) → ((call : HostCall) → status ≡ Waits call → are_many given ≡ false) → is_due S deep s given ≡ false
due_at S deep s given Moving e flat few = rw (e, is_due) (flat refl)
due_at S deep s given (Waits call) e flat few = rw (e, is_due) (few call refl)
due_at S deep s given Returned e flat few = rw (e, is_due) refl
due_at S deep s given (Exited code) e flat few = rw (e, is_due) refl
due_at S deep s given (Trapped why) e flat few = rw (e, is_due) refl

-- and where it is told that none is due
due_moving : (S : System hosts) (deep : S.State → Bool) (s : S.State) (given : List Answer) → S.status s ≡ Moving → is_due S deep s given ≡ false → deep s ≡ false
due_moving S deep s given e free = let same : is_due S deep s given ≡ deep s = rw (e, is_due) refl in sym same ∙ free

pub due_waiting : (S : System hosts) (deep : S.State → Bool) (s : S.State) (given : List Answer) (call : HostCall) → S.status s ≡ Waits call
    → is_due S deep s given ≡ false → are_many given ≡ false
due_waiting S deep s given call e free = let same : is_due S deep s given ≡ are_many given = rw (e, is_due) refl in sym same ∙ free

module _ (S : System hosts) (deep : S.State → Bool) (wasm : Module) (cost room : S.State → ℕ) (more : ℕ) (s : S.State) (t : ModuleState)
    (within : AgreeWithin S (module_system wasm) cost room module_depth more s t) (least most deepest widest : ℕ) (ran : told.Ran)
    (is : RunsTo S deep s least ran) (itself : EndsByItself ran.end)
    (low : (n : ℕ) → n ≤ ran.steps → room (run S n s ran.answers).state ≤ deepest) (wide : IsAsWide wasm widest)
    (few : deepest ≤ most_activations) (small : deepest * widest ≤ most_values) (enough : spent S cost ran.steps s ran.answers + more ≤ most) where
  abbrev T : System hosts
  T = module_system wasm

  abbrev given : List Answer
  given = ran.answers

  abbrev R : ℕ → Ran hosts S.State
  R n = run S n s given

  abbrev Q : ℕ → Ran hosts ModuleState
  Q k = run T k t given

  -- ---- where the set's run has ended

  ended : end_of (S.status (R ran.steps).state) ≡ Some ran.end
  ended = ended_by_itself S deep least ran.steps (R ran.steps).state (taken_by S ran.steps s given) ran.end itself is.ends

  set_ended : goes_on (S.status (R ran.steps).state) ≡ false
  set_ended = end_is_end (S.status (R ran.steps).state) ran.end ended

  -- there is room at each moment, also after it
  low_ever : (n : ℕ) → room (R n).state ≤ deepest
  low_ever n = ⊎_elim (λ lt. low n (omega arith)) late (cases_lt n ran.steps)
    where
      late : ran.steps ≤ n → room (R n).state ≤ deepest
      late ge =
          let same = ap (λ (r : Ran hosts S.State). room r.state) (stays_ended S ran.steps n s given ge set_ended) in
          let there = low ran.steps (omega arith) in
          omega (arith, same, there)

  -- ---- the module's run comes to the same end

  abbrev led : ℕ
  led = (within.there given ran.steps).0

  abbrev steps : ℕ
  steps = made T led t given

  alike : Alike S T (R ran.steps) (Q steps)
  alike = subst (λ (q : Ran hosts ModuleState). Alike S T (R ran.steps) q) (sym (run_of_made T led t given)) (within.there given ran.steps).3

  seen : (T.status (Q steps).state ≡ S.status (R ran.steps).state) × (T.memory (Q steps).state ≡ S.memory (R ran.steps).state)
  seen = alike.seen (not_moving (S.status (R ran.steps).state) ran.end ended)

  module_ended : end_of (T.status (Q steps).state) ≡ Some ran.end
  module_ended = ap end_of seen.0 ∙ ended

  ended_there : goes_on (T.status (Q steps).state) ≡ false
  ended_there = end_is_end (T.status (Q steps).state) ran.end module_ended

  cheap : steps ≤ spent S cost ran.steps s given + more
  cheap =
      let fewer = made_most T led t given in
      let most = (within.there given ran.steps).2 in
      omega (arith, fewer, most)

  real : IsReal T steps t given
  real = made_are_real T led t given

  -- ---- and no limit is due before

  flat : (k : ℕ) → k < steps → T.status (Q k).state ≡ Moving → module_too_deep wasm (Q k).state ≡ false
  flat k lt moving = go (T.step (Q k).state) refl
    where
      x : (x : ModuleState × List Answer) × (next T (Q k).state (Q k).left ≡ Some x)
      x = real_next T k steps t given lt real

      go : (o : Option ModuleState) → T.step (Q k).state ≡ o → module_too_deep wasm (Q k).state ≡ false
      go None e = absurd (let none : next T (Q k).state (Q k).left ≡ None = ap (λ status. next_at T status (Q k).state (Q k).left) moving ∙ ap (with_rest (Q k).left) e in let there = x.1 in cc)
      go (Some u) e =
          let one : next T (Q k).state (Q k).left ≡ Some (u, (Q k).left) = ap (λ status. next_at T status (Q k).state (Q k).left) moving ∙ ap (with_rest (Q k).left) e in
          let after : (Q (suc k)).state ≡ u = rw (run_last T k t given, one) refl in
          let back = within.back given (suc k) in
          let here = back.2 in
          let above = low_ever back.0 in
          let depth = ap module_depth after in
          not_deep wasm deepest widest wide few small (Q k).state u e (omega (arith, here, above, depth))

  asked_few : (k : ℕ) → k < steps → (call : HostCall) → T.status (Q k).state ≡ Waits call → are_many (taken_by T k t given) ≡ false
  asked_few k lt call waits =
      let back = within.back given k in
      let both = back.3.seen (λ moving. absurd (let w = waits in cc)) in
      let stands : S.status (R back.0).state ≡ Waits call = both.0 ∙ waits in
      let earlier : back.0 < ran.steps = ends_later S ran.steps back.0 s given set_ended (ap goes_on stands) in
      ap are_many (same_taken S T s t given k back.0 call back.3.events waits stands)
      ∙ due_waiting S deep (R back.0).state (taken_by S back.0 s given) call stands (is.made.free back.0 earlier)

  free : (k : ℕ) → k < steps → is_due T (module_too_deep wasm) (Q k).state (taken_by T k t given) ≡ false
  free k lt = due_at T (module_too_deep wasm) (Q k).state (taken_by T k t given) (T.status (Q k).state) refl (flat k lt) (asked_few k lt)

  -- ---- no other run within the limits ends otherwise

  module _ (other : told.Ran) (same : other.answers ≡ given) (runs : RunsTo T (module_too_deep wasm) t most other) where
    abbrev Over : List Answer → ℕ → Ran hosts ModuleState
    Over answers k = run T k t answers

    stands : EndsAs T (module_too_deep wasm) most other.steps (Q other.steps).state (taken_by T other.steps t given) other.end
    stands = subst (λ answers. EndsAs T (module_too_deep wasm) most other.steps (Over answers other.steps).state (taken_by T other.steps t answers) other.end) same runs.ends

    -- it has ended by itself
    over : end_of (T.status (Q other.steps).state) ≡ Some other.end → other.end ≡ ran.end
    over e =
        let one = one_end T steps other.steps t given ended_there (end_is_end (T.status (Q other.steps).state) other.end e) in
        let there = ap (λ (q : Ran hosts ModuleState). end_of (T.status q.state)) one in
        let found : Some other.end ≡ Some ran.end = sym e ∙ there ∙ module_ended in
        cc

    early : goes_on (T.status (Q other.steps).state) ≡ true → other.steps < steps
    early on = ends_later T steps other.steps t given ended_there on

    only_by : (e : RunEnd) → other.end ≡ e → EndsAs T (module_too_deep wasm) most other.steps (Q other.steps).state (taken_by T other.steps t given) e → other.end ≡ ran.end
    only_by end.Return e ends = over (ap end_of ends ∙ sym (ap Some e))
    only_by (end.Exit code) e ends = over (ap end_of ends ∙ sym (ap Some e))
    only_by (end.Trap why) e ends = over (ap end_of ends ∙ sym (ap Some e))
    only_by end.StepLimit e ends = let soon = early ends.1 in let all = ends.0 in let price = cheap in absurd (omega (arith, soon, all, price, enough))
    only_by end.DepthLimit e ends = absurd (true≢false (sym ends.2 ∙ flat other.steps (early (ap goes_on ends.1)) ends.1))
    only_by end.HostCallLimit e ends = absurd (true≢false (sym ends.2 ∙ asked_few other.steps (early (ap goes_on ends.1.1)) ends.1.0 ends.1.1))
    only_by end.TurnLimit e ends = absurd ends

    only : other.end ≡ ran.end
    only = only_by other.end refl stands

  -- it makes as many steps as are spent, or fewer, and ends so
  pub ends_within : (steps : ℕ) × (steps ≤ spent S cost ran.steps s given + more) × RunsTo T (module_too_deep wasm) t most (record ran { steps = steps })
      × ((run T steps t given).events ≡ (run S ran.steps s given).events)
      × ((other : told.Ran) → other.answers ≡ given → RunsTo T (module_too_deep wasm) t most other → other.end ≡ ran.end)
  ends_within = (
    steps,
    cheap,
    record {
      made = record { few = (let price = cheap in omega (arith, price, enough)); real = real; free = free };
      ends = ends_as T (module_too_deep wasm) most steps (Q steps).state (taken_by T steps t given) ran.end itself module_ended;
    },
    sym alike.events,
    only,
  )
