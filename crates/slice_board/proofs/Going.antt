-- The steps of a turn: some of code, and then a stop, or one step more.
use Rattle.std.proofs.Common.{◌≡◌, ◌≤◌, ◌<◌, ℕ, suc, ◌-◌, Bool, true, false, nat_eq, ◌⊎◌, inl, inr, Option, Some, None, refl, sym, ap, ◌∙◌, subst, arith}
use Rattle.spec_loading.specs.spec_runs.Systems.{Moving}
use Rattle.spec_loading.specs.spec_linking.LinkedSets.{LinkedSet, set_hosts}
use Rattle.spec_loading.specs.spec_runtime.Recorded.{Recorded, has_ended}
use Rattle.spec_loading.specs.spec_runtime.Courses.{Course, reached, state_at, status_at, memory_at, IsAt, is_waiting, with_step, as_lost}
use Rattle.spec_boards.specs.declared.turn.Stop.{Stop}
use Rattle.spec_boards.specs.declared.turn.Stop.TheVariants as stop
use Rattle.spec_boards.specs.Turns.{stop_at}
use Rattle.spec_boards.proofs.Stops.{first_cause, none_going}
use Rattle.wasm_machine.specs.declared.event.Event.{Event}
use Rattle.wasm_machine.specs.declared.event.Event.TheVariants as event
use Rattle.wasm_machine.specs.Steps.{TellsStatus, StepMade, RunStepped, Advances, AreOfCode}
use Rattle.dyl_store.specs.Stores.{StoreRun, set_course, MayWantAt}
use Rattle.slice_board.specs.Taken.{place_of}
use Rattle.slice_board.specs.Steps.{first_stop, stop_seen, deep_stop, turn_left, GoesAlong, StopsOrGoes, GoesOn, GetsLost}
use Rattle.slice_board.proofs.Lefts.{code_left, seen_none, seen_some, seen_deep, seen_under, step_left}

module _ (most until : ℕ) where
  -- ---- along a turn

  pub goes_further : (old middle new : StoreRun) → middle.linked ≡ old.linked → GoesAlong most until old middle → GoesAlong most until middle new → GoesAlong most until old new
  goes_further old middle new same first then =
      let a = first.more in
      let b = then.more in
      record {
        answers = then.answers ∙ first.answers;
        more = omega arith;
        few = then.few;
        same = λ start end begun least.
            subst (λ (L : LinkedSet). turn_left (set_course L) most start end new.run ≡ turn_left (set_course L) most start end middle.run) same (then.same start end (omega arith) least)
            ∙ first.same start end begun least;
      }

  -- ---- steps of code

  module _ (old new : StoreRun) (same : new.linked ≡ old.linked) (begun : old.run.steps ≤ until) (along : Advances until old.run new.run)
      (code : AreOfCode (set_course old.linked) old.run new.run) where
    pub code_along : GoesAlong most until old new
    code_along = record {
      answers = ap (λ (x : Recorded). x.answers) along.same;
      more = along.more;
      few = elim along.few [ inl none ↦ omega arith | inr few ↦ few ];
      same = λ start end from least. code_left (set_course old.linked) most start end until least old.run new.run from along code;
    }

    -- memory was wanting for one of them, or before
    pub code_lost : new.run.lost ≡ true → (old.run.lost ≡ true) ⊎ MayWantAt old.linked new.run → (old.run.lost ≡ true → new.run ≡ old.run) → GetsLost most until old new
    code_lost lost wanting stays = go old.run.lost refl
      where
        go : (b : Bool) → old.run.lost ≡ b → GetsLost most until old new
        go true q = inl (q, stays q)
        go false q = inr (q, lost, code_along, elim wanting [ inl was ↦ absurd (let bad : true ≡ false = sym was ∙ q in cc) | inr may ↦ may ])

    -- a stop is due after them
    pub code_stops : old.run.lost ≡ false → new.run.lost ≡ false → (why : Stop)
        → (new.run.lost ≡ false → Some why ≡ stop_seen (set_course new.linked) most until new.run) → GoesOn most until (Some why) old new
    code_stops found still why seen = record {
      found = found;
      still = still;
      along = code_along;
      stops = λ end least.
          subst (λ (L : LinkedSet). stop_at (set_course L) most (end - new.run.steps) (place_of new.run) ≡ Some why) same
          (seen_some (set_course new.linked) most 0 end until least new.run why (code_along).few (sym (seen still)));
    }

  -- ---- one step more

  module _ (old new : StoreRun) (few : old.run.steps ≤ until) (still : old.run.lost ≡ false)
      (seen : old.run.lost ≡ false → None ≡ stop_seen (set_course old.linked) most until old.run) where
    abbrev C : Course
    C = set_course old.linked

    pub step_under : old.run.steps < until
    step_under = seen_under C most until old.run few (sym (seen still))

    -- memory was wanting for it
    pub step_lost : new.run ≡ as_lost old.run → MayWantAt old.linked old.run → GetsLost most until old new
    step_lost lost may = inr (still, ap (λ (x : Recorded). x.lost) lost, along, wanting)
      where
        along : GoesAlong most until old new
        along = record {
          answers = ap (λ (x : Recorded). x.answers) lost;
          more = (let e : new.run.steps ≡ old.run.steps = ap (λ (x : Recorded). x.steps) lost in omega arith);
          few = (let e : new.run.steps ≡ old.run.steps = ap (λ (x : Recorded). x.steps) lost in omega arith);
          same = λ start end begun least. ap (turn_left C most start end) lost;
        }

        wanting : MayWantAt old.linked new.run
        wanting = subst (λ (x : Recorded). MayWantAt old.linked x) (sym lost) may

    -- what is told of a step that isn't too deep
    abbrev Made : Event → Type 0
    Made e =
        StepMade C e old.run new.run × (status_at C old.run ≡ Moving → C.deep (state_at C old.run) ≡ false)
        ⊎ (has_ended (status_at C old.run) ≡ true) × TellsStatus (set_hosts old.linked) e (status_at C old.run) × (new.run ≡ old.run)

    -- no stop was due, so it was made
    made : (e : Event) → Made e → (new.run ≡ with_step old.run) × (status_at C old.run ≡ Moving → C.deep (state_at C old.run) ≡ false)
    made e told = elim told [
      | inl this ↦ (this.0.1, this.1)
      | inr ended ↦
          let going = none_going (reached C old.run).left (memory_at C old.run) _ _ (status_at C old.run) (sym (seen still)) in
          absurd (let bad : true ≡ false = sym ended.0 ∙ going in cc)
    ]

    step_goes : (e : Event) → Made e → GoesOn most until None old new
    step_goes e told =
        let this = made e told in
        let stepped = this.0 in
        let under = step_under in
        let one : new.run.steps ≡ suc old.run.steps = ap (λ (x : Recorded). x.steps) stepped in
        record {
          found = still;
          still = ap (λ (x : Recorded). x.lost) stepped ∙ still;
          along = record {
            answers = ap (λ (x : Recorded). x.answers) stepped;
            more = omega arith;
            few = omega arith;
            same = λ start end begun least.
                let none = seen_none C most start end until least old.run few (sym (seen still)) this.1 in
                ap (turn_left C most start end) this.0 ∙ step_left C most start end until least old.run begun under none;
          };
          stops = omega arith;
        }

    -- it would be too deep
    step_deep : RunStepped C event.Deep old.run new.run → GoesOn most until (Some stop.Deep) old new
    step_deep told =
        let same : new.run ≡ old.run = told.2 in
        let steps : new.run.steps ≡ old.run.steps = ap (λ (x : Recorded). x.steps) same in
        record {
          found = still;
          still = ap (λ (x : Recorded). x.lost) same ∙ still;
          along = record {
            answers = ap (λ (x : Recorded). x.answers) same;
            more = omega arith;
            few = omega arith;
            same = λ start end begun least. ap (turn_left C most start end) same;
          };
          stops = λ end least.
              let due = seen_deep C most 0 end until least old.run few (sym (seen still)) told.0 told.1 in
              ap (λ (x : Recorded). stop_at C most (end - x.steps) (place_of x)) same ∙ due;
        }

    pub step_told : (e : Event) → RunStepped C e old.run new.run → GoesOn most until (deep_stop e) old new
    step_told event.Deep told = step_deep told
    step_told event.Moved told = step_goes event.Moved told
    step_told (event.Waits asked) told = step_goes (event.Waits asked) told
    step_told (event.Loader call first second) told = step_goes (event.Loader call first second) told
    step_told (event.Marked tag) told = step_goes (event.Marked tag) told
    step_told event.Returned told = step_goes event.Returned told
    step_told (event.Trapped why) told = step_goes (event.Trapped why) told
    step_told (event.Exited code) told = step_goes (event.Exited code) told

  -- ---- one after the other

  -- steps of code, and then what comes of the next one
  pub goes_then : (old middle new : StoreRun) (why : Option Stop) → middle.linked ≡ old.linked → old.run.lost ≡ false → GoesAlong most until old middle
      → GoesOn most until why middle new → GoesOn most until why old new
  goes_then old middle new why same found first then = record {
    found = found;
    still = then.still;
    along = goes_further old middle new same first then.along;
    stops = stops why then.stops;
  }
    where
      stops : (why : Option Stop) → StopsOrGoes most until why middle new → StopsOrGoes most until why old new
      stops None more = (let a = first.more in omega (arith, more))
      stops (Some why) due = λ end least. subst (λ (L : LinkedSet). stop_at (set_course L) most (end - new.run.steps) (place_of new.run) ≡ Some why) same (due end least)

  -- or memory was wanting
  pub goes_lost : (old middle new : StoreRun) → middle.linked ≡ old.linked → old.run.lost ≡ false → middle.run.lost ≡ false → GoesAlong most until old middle
      → GetsLost most until middle new → GetsLost most until old new
  goes_lost old middle new same found still first lost = elim lost [
    | inl was ↦ absurd (let bad : true ≡ false = sym was.0 ∙ still in cc)
    | inr then ↦ inr (found, then.1, goes_further old middle new same first then.2, subst (λ k. MayWantAt k new.run) same then.3)
  ]

-- ---- rounds of these

-- no round was made yet, or memory wasn't wanting in those that were
abbrev pub IsBegun : StoreRun → StoreRun → Type 0
IsBegun old new = (new ≡ old) ⊎ (old.run.lost ≡ false) × (new.run.lost ≡ false)

module _ (most until : ℕ) (old middle new : StoreRun) (same : middle.linked ≡ old.linked) (first : GoesAlong most until old middle) (begun : IsBegun old middle) where
  pub round_lost : GetsLost most until middle new → GetsLost most until old new
  round_lost lost = elim begun [
    | inl none ↦ subst (λ x. GetsLost most until x new) none lost
    | inr found ↦ goes_lost most until old middle new same found.0 found.1 first lost
  ]

  pub round_goes : (why : Option Stop) → GoesOn most until why middle new → GoesOn most until why old new
  round_goes why then = elim begun [
    | inl none ↦ subst (λ x. GoesOn most until why x new) none then
    | inr found ↦ goes_then most until old middle new why same found.0 first then
  ]

-- ---- what is seen before a step

-- a run that waits stops
pub none_waits : (ended limited waits spent : Bool) → first_stop ended limited waits spent ≡ None → waits ≡ false
none_waits true limited waits spent e = absurd cc
none_waits false true waits spent e = absurd cc
none_waits false false true spent e = absurd cc
none_waits false false false spent e = refl

sees_first : (C : Course) (most until : ℕ) (x : Recorded) → IsAt C x
    → first_stop (has_ended (status_at C x)) (nat_eq x.steps most) (is_waiting C x) (nat_eq x.steps until) ≡ stop_seen C most until x
sees_first C most until x at =
    first_cause (nat_eq x.steps most) (nat_eq x.steps until) x.answered (reached C x).left (memory_at C x) (status_at C x) at.left

-- the same by what was asked of the run
pub stop_is : (C : Course) (most until : ℕ) (x : Recorded) (result : Option Stop) (steps : ℕ) (ended waits : Bool) → IsAt C x
    → result ≡ first_stop ended (nat_eq steps most) waits (nat_eq steps until) → steps ≡ x.steps → ended ≡ has_ended (status_at C x) → waits ≡ is_waiting C x
    → result ≡ stop_seen C most until x
stop_is C most until x result steps ended waits at e count has_ended_is waits_is = e ∙ rw (count, has_ended_is, waits_is) (sees_first C most until x at)

-- memory wasn't wanting before
pub was_found : (lost : Bool) → (lost ≡ true → ⊥) → lost ≡ false
was_found true isnt = absurd (isnt refl)
was_found false isnt = refl
