-- What further steps of code make of the run.
use Rattle.std.proofs.Common.{arith, ◌≡◌, ◌≢◌, ℕ, List, zero, suc, ◌<◌, ◌≤◌, ◌+◌, Some, Bool, true, false, sym, ap, ◌∙◌, subst, inl, inr, ⊎_elim, refl}
use Rattle.std.proofs.lemmas.Bool.{false≢true, cases_lt}
use Rattle.wasm_form.specs.declared.runtime.Trap.{Trap}
use Rattle.spec_safety.specs.spec_runs.Systems.{Status, Moving, Waits, Returned, Exited, Trapped}
use Rattle.spec_safety.specs.spec_runtime.Names.{HostName}
use Rattle.spec_safety.specs.spec_runtime.Hosts.{HostCall}
use Rattle.spec_safety.specs.spec_runtime.Recorded.{Recorded, waits}
use Rattle.spec_safety.specs.spec_runtime.Courses.{Course, after, state_at, status_at, IsAt}
use Rattle.wasm_machine.specs.declared.machine.Standing.{Standing}
use Rattle.wasm_machine.specs.declared.machine.Standing.TheVariants as standing
use Rattle.wasm_machine.specs.Iterated.{Iterated}
use Rattle.wasm_machine.specs.Steps.{Advances, AreOfCode}
use Rattle.wasm_machine.proofs.Steps.{advanced, kept_advances, made_advances, kept_at, made_one, kept_code, made_code, OneStep, IsReached, made_many, many_advances}
use Rattle.wasm_machine.proofs.Stepping.{iterated_wider}
use Rattle.wasm_recorder.specs.Bares.{Bares, StandsSo}
use Rattle.wasm_recorder.specs.Runs.{IsCodeNext, HadCode, MayWantAt, CodeStep, StopsCounted, Counted, Tells}
use Rattle.wasm_recorder.specs.Kept.{RunOf, run_of, StandsFrom, IsKept}
use Rattle.wasm_recorder.proofs.Stepping.{stands_now, origin_now, stands_so}

-- the machine of a run that goes on does
code_moves : (hosts : List HostName) (status : Status HostCall Trap) → status ≡ Moving → (st : Standing) → StandsSo hosts st status → st ≡ standing.Moving
code_moves hosts status moving standing.Moving q = refl
code_moves hosts status moving (standing.Asking entry count) q = absurd (let clash : Waits q.0 ≡ Moving = sym q.1 ∙ moving in cc)
code_moves hosts status moving standing.Loading q = absurd q
code_moves hosts status moving standing.Returned q = absurd (let h : status ≡ Returned = q in let clash : Returned ≡ Moving = sym h ∙ moving in cc)
code_moves hosts status moving (standing.Trapped why) q = absurd (let h : status ≡ Trapped why = q in let clash : Trapped why ≡ Moving = sym h ∙ moving in cc)
code_moves hosts status moving (standing.Exited number) q = absurd (let h : status ≡ Exited number = q in let clash : Exited number ≡ Moving = sym h ∙ moving in cc)
code_moves hosts status moving standing.Lost q = absurd q

module _ {B K : Type 0} (D : Bares B K) where
  -- no step of code is left to a run, of which so many steps may be made in all
  abbrev pub HasNoneLeft : ℕ → K → Recorded → Type 0
  HasNoneLeft most k y = (o : D.Origin) → D.IsOf k o → y.steps < most → IsCodeNext D k o (state_at (D.course k o) y) → ⊥

  -- what is so of a run that has made steps of code, of which so many may be made in all, until none was left
  pub record IsAdvanced (most : ℕ) (k : K) (v y : Recorded) (new : B) : Type 0 where
    pub kept : IsKept D new y
    pub same : D.key new ≡ k
    pub advances : Advances most v y
    pub code : (o : D.Origin) → D.IsOf k o → AreOfCode (D.course k o) v y
    pub tops : (o : D.Origin) → D.IsOf k o → HadCode D k o v y
    pub left : y.lost ≡ false → HasNoneLeft most k y
    pub wants : y.lost ≡ true → (o : D.Origin) → D.IsOf k o → MayWantAt D k o y

  -- no step of code is left to a run that doesn't go on
  pub idle_left : (most : ℕ) (b : B) (x : Recorded) → IsKept D b x → Tells D b → (D.standing b ≡ standing.Moving → ⊥) → x.lost ≡ false → HasNoneLeft most (D.key b) x
  idle_left most b x h tells idle found o of few code =
      idle (code_moves (D.hosts (D.key b)) (status_at (D.course (D.key b) o) x) code.0 (D.standing b) (stands_so D b x h found (D.standing b) refl tells o of))

  module _ (k : K) (o : D.Origin) (v x : Recorded) (same : x.answers ≡ v.answers) (tops : HadCode D k o v x) (steps : ℕ) (lost : Bool) where
    kept_tops : steps ≡ x.steps → HadCode D k o v (advanced x steps lost)
    kept_tops e = λ n from to. tops n from (omega arith)

    made_tops : D.HasCode k o (state_at (D.course k o) x) → steps ≡ suc x.steps → HadCode D k o v (advanced x steps lost)
    made_tops code e = λ n from to. ⊎_elim (λ (h : n < x.steps). tops n from h) (λ (h : x.steps ≤ n).
        let here : x.steps ≡ n = omega arith in
        subst (λ given. D.HasCode k o (after (D.course k o) n given).state) same (subst (λ m. D.HasCode k o (after (D.course k o) m x.answers).state) here code)) (cases_lt n x.steps)

  module _ (most : ℕ) (b new : B) (v : Recorded) (steps : ℕ) (lost : Bool) (h : IsKept D b v) (found : v.lost ≡ false) (tells : Tells D b) (goes : D.standing b ≡ standing.Moving)
      (sound : lost ≡ false → D.IsSound new) (whole : D.IsWhole new) (key : D.key new ≡ D.key b) where
    abbrev k : K
    k = D.key b

    abbrev y : Recorded
    y = advanced v steps lost

    -- what is so of the run from an origin after these steps
    record HasAdvanced (o : D.Origin) : Type 0 where
      pub stands : lost ≡ false → StandsFrom D k o y new
      pub advances : Advances most v y
      pub code : AreOfCode (D.course k o) v y
      pub tops : HadCode D k o v y
      pub left : lost ≡ false → y.steps < most → IsCodeNext D k o (state_at (D.course k o) y) → ⊥
      pub wants : lost ≡ true → D.MayWant k o (state_at (D.course k o) y)

    module _ (o : D.Origin) (of : D.IsOf k o) where
      abbrev C : Course
      C = D.course k o

      from : StandsFrom D k o v b
      from = h.stands found o of

      start : status_at C v ≡ Moving
      start = stands_so D b v h found standing.Moving (sym goes) tells o of

      -- as steps of the course
      many : (n : ℕ) (u : C.system.State) → Iterated (CodeStep D k o) n (state_at C v) u → IsReached C v from.0 start (v.steps + n) u
      many n u made =
          made_many C v from.0 start n (v.steps + n) u refl (iterated_wider (CodeStep D k o) (OneStep C) (λ s t q. (q.1, q.2, q.3)) n (state_at C v) u made)

      many_tops : (n m : ℕ) (u : C.system.State) → m ≡ v.steps + n → Iterated (CodeStep D k o) n (state_at C v) u → HadCode D k o v (advanced v m v.lost)
      many_tops zero m u e same = λ j at below. absurd (omega arith)
      many_tops (suc n) m u e made =
          let x = advanced v (v.steps + n) v.lost in
          made_tops k o v x refl (many_tops n (v.steps + n) made.0 refl made.1) m v.lost (subst (D.HasCode k o) (sym (many n made.0 made.1).reaches) made.2.0) (omega arith)

      module _ (n : ℕ) (u : C.system.State) (few : v.steps + n ≤ most) (made : Iterated (CodeStep D k o) n (state_at C v) u) where
        abbrev x : Recorded
        x = advanced v (v.steps + n) v.lost

        reached : IsReached C v from.0 start (v.steps + n) u
        reached = many n u made

        at : IsAt C x
        at = reached.stands

        here : state_at C x ≡ u
        here = reached.reaches

        moving : status_at C x ≡ Moving
        moving = ap C.system.status here ∙ reached.goes

        so_far : Advances most v x
        so_far = many_advances most v n few

        tops_so_far : HadCode D k o v x
        tops_so_far = many_tops n (v.steps + n) u refl made

        -- a step more was made
        module _ (code : D.HasCode k o u) (deep : C.deep u ≡ false) (to : C.system.State) (made_it : C.system.step u ≡ Some to) (state : D.IsState new k o to)
            (unasked : waits (C.system.status to) ≡ false) (stopped : C.system.status to ≢ Moving) (count : steps ≡ suc x.steps) where
          flat : C.deep (state_at C x) ≡ false
          flat = ap C.deep here ∙ deep

          step : C.system.step (state_at C x) ≡ Some to
          step = ap C.system.step here ∙ made_it

          code_made : AreOfCode C v y
          code_made = made_code C v x refl reached.code steps lost at to moving flat step unasked count

          tops_made : HadCode D k o v y
          tops_made = made_tops k o v x refl tops_so_far steps lost (subst (D.HasCode k o) (sym here) code) count

          stands_made : lost ≡ false → StandsFrom D k o y new
          stands_made none =
              let s = made_one C x at steps lost none to moving step count in
              (s.0, subst (D.IsState new k o) (sym s.1) state)

          left_made : lost ≡ false → IsCodeNext D k o (state_at C y) → ⊥
          left_made none next = stopped (sym (ap C.system.status (made_one C x at steps lost none to moving step count).1) ∙ next.0)

        -- none was
        module _ (count : steps ≡ x.steps) where
          code_kept : AreOfCode C v y
          code_kept = kept_code C v x refl reached.code steps lost count

          tops_kept : HadCode D k o v y
          tops_kept = kept_tops k o v x refl tops_so_far steps lost count

          still : lost ≡ false → state_at C y ≡ u
          still none = (kept_at C x at steps lost none count).1 ∙ here

          stands_kept : D.IsState new k o u → lost ≡ false → StandsFrom D k o y new
          stands_kept is none = ((kept_at C x at steps lost none count).0, subst (D.IsState new k o) (sym (still none)) is)

        stops_so : StopsCounted D k o most u new (v.steps + n) steps lost → HasAdvanced o
        stops_so (inl q) =
            let l = q.3 in record {
              stands = stands_made l.0 l.1 l.2.0 l.2.1 l.2.2 l.2.3 l.2.4 q.0;
              advances = made_advances most v x so_far steps lost q.1 q.0;
              code = code_made l.0 l.1 l.2.0 l.2.1 l.2.2 l.2.3 l.2.4 q.0;
              tops = tops_made l.0 l.1 l.2.0 l.2.1 l.2.2 l.2.3 l.2.4 q.0;
              left = λ _ less next. left_made l.0 l.1 l.2.0 l.2.1 l.2.2 l.2.3 l.2.4 q.0 q.2 next;
              wants = λ wanting. absurd (false≢true (sym q.2 ∙ wanting));
            }
        stops_so (inr (inl q)) = record {
          stands = stands_kept q.0 q.2;
          advances = kept_advances most v x so_far steps lost q.0;
          code = code_kept q.0;
          tops = tops_kept q.0;
          left = λ _ less next. q.3 (subst (λ m. m < most) q.0 less) (subst (IsCodeNext D k o) (still q.0 q.1) next);
          wants = λ wanting. absurd (false≢true (sym q.1 ∙ wanting));
        }
        stops_so (inr (inr q)) = record {
          stands = λ none. absurd (false≢true (sym none ∙ q.1));
          advances = kept_advances most v x so_far steps lost q.0;
          code = code_kept q.0;
          tops = tops_kept q.0;
          left = λ none less next. absurd (false≢true (sym none ∙ q.1));
          wants = λ _. subst (λ m. D.MayWant k o (state_at C (advanced v m lost))) (sym q.0) (subst (D.MayWant k o) (sym here) q.2);
        }

    module _ (counts : Counted D most b new v.steps steps lost) where
      has_advanced : (o : D.Origin) → D.IsOf k o → HasAdvanced o
      has_advanced o of =
          let q = counts o of (state_at (D.course k o) v) (from o of).1 in
          stops_so o of q.0 q.1 q.2 q.3 q.4

      pub advanced_so : IsAdvanced most k v y new
      advanced_so = record {
        kept = record { whole = whole; bytes = h.bytes; origin = origin_now D b new key h.origin; sound = sound; stands = λ none. stands_now D b new y key (λ o of. (has_advanced o of).stands none) };
        same = key;
        advances = (has_advanced h.origin.0 h.origin.1).advances;
        code = λ o of. (has_advanced o of).code;
        tops = λ o of. (has_advanced o of).tops;
        left = λ none o of. (has_advanced o of).left none;
        wants = λ wanting o of. (has_advanced o of).wants wanting;
      }

  -- the same of what contracts see
  module _ (most : ℕ) (v : RunOf K) (b new : B) (x y : Recorded) (is : run_of D b x ≡ v) (h : IsAdvanced most (D.key b) x y new) where
    pub code_of : (o : D.Origin) → D.IsOf v.of o → AreOfCode (D.course v.of o) v.run y
    code_of = subst (λ (w : RunOf K). (o : D.Origin) → D.IsOf w.of o → AreOfCode (D.course w.of o) w.run y) is h.code

    pub tops_of : (o : D.Origin) → D.IsOf v.of o → HadCode D v.of o v.run y
    tops_of = subst (λ (w : RunOf K). (o : D.Origin) → D.IsOf w.of o → HadCode D w.of o w.run y) is h.tops

    pub wants_of : y.lost ≡ true → (o : D.Origin) → D.IsOf v.of o → MayWantAt D v.of o y
    wants_of = subst (λ (w : RunOf K). y.lost ≡ true → (o : D.Origin) → D.IsOf w.of o → MayWantAt D w.of o y) is h.wants

    pub left_of : y.lost ≡ false → HasNoneLeft most v.of y
    left_of = subst (λ (w : RunOf K). y.lost ≡ false → HasNoneLeft most w.of y) is h.left
