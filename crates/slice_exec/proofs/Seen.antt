-- Whether a run is done, and how it ended, by what is told of it.
use Rattle.std.proofs.Common.{◌≡◌, ℕ, Bool, true, false, true≢false, ◌&&◌, ◌||◌, nat_eq, List, slice_get, Option, Some, None, refl, sym, ap, ◌∙◌, subst, arith}
use Rattle.std.proofs.lemmas.Bool.{eq-eqb, ne_eqb, and_parts, or_left, or_right}
use Rattle.std.proofs.lemmas.Option.{same_Some}
use Rattle.spec_hosts.specs.wasm_form.declared.runtime.Trap.{Trap}
use Rattle.spec_hosts.specs.spec_runs.Systems.{Status, Moving, Waits, Returned, Exited, Trapped}
use Rattle.spec_hosts.specs.spec_runtime.Names.{HostName}
use Rattle.spec_hosts.specs.spec_runtime.Hosts.{HostCall}
use Rattle.spec_hosts.specs.spec_runtime.Recorded.{Recorded, has_ended}
use Rattle.spec_hosts.specs.spec_runtime.Courses.{Course, state_at, status_at, IsAt, is_waiting}
use Rattle.spec_hosts.specs.Ends.{are_many}
use Rattle.spec_hosts.specs.declared.ran.RunEnd.{RunEnd}
use Rattle.spec_hosts.specs.declared.ran.RunEnd.TheVariants as end
use Rattle.spec_boards.specs.BoardRuns.{is_done, EndsBy}
use Rattle.spec_boards.proofs.Ending.{IsDeep, done_is, ends_at_steps, ends_at_calls}
use Rattle.dyl_store.specs.Stores.{StoreRun, set_course, is_moving, is_deep_at}
use Rattle.wasm_machine.specs.declared.event.Event.{Event}
use Rattle.wasm_machine.specs.declared.event.Event.TheVariants as event
use Rattle.wasm_machine.specs.Steps.{TellsStatus}
use Rattle.run_loaded.specs.Events.{end_by}
use Rattle.slice_board.specs.Taken.{place_of}
use Rattle.slice_board.specs.declared.board.Seat.{Seat}
use Rattle.slice_exec.specs.Playing.{IsSeated, SomeGoes, IsDone}

deep_by : (status : Status HostCall Trap) (deep : Bool) → IsDeep (is_moving status && deep) status deep
deep_by Moving deep = refl
deep_by (Waits call) deep = refl
deep_by Returned deep = refl
deep_by (Exited code) deep = refl
deep_by (Trapped why) deep = refl

-- ---- an end that is told

told_end : (C : Course) (most : ℕ) (x : Recorded) (status : Status HostCall Trap) (e : Event) (last : RunEnd) → status_at C x ≡ status → TellsStatus C.host e status → end_by e ≡ Some last
    → EndsBy true C most (place_of x) last
told_end C most x Returned event.Returned last is tells told = subst (EndsBy true C most (place_of x)) (same_Some end.Return last told) is
told_end C most x (Trapped why) (event.Trapped cause) last is tells told = subst (EndsBy true C most (place_of x)) (same_Some (end.Trap cause) last told) (is ∙ ap Trapped (sym tells))
told_end C most x (Exited code) (event.Exited value) last is tells told = subst (EndsBy true C most (place_of x)) (same_Some (end.Exit value) last told) (is ∙ ap Exited (sym tells))
told_end C most x Moving event.Moved last is tells told = absurd cc
told_end C most x (Waits call) (event.Waits asked) last is tells told = absurd cc
told_end C most x _ _ last is tells told = absurd tells

-- no end is told of a run that goes on
untold : (host : ℕ → Option HostName) (status : Status HostCall Trap) (e : Event) → TellsStatus host e status → end_by e ≡ None → has_ended status ≡ false
untold host Moving e tells none = refl
untold host (Waits call) e tells none = refl
untold host Returned event.Returned tells none = absurd cc
untold host (Trapped why) (event.Trapped cause) tells none = absurd cc
untold host (Exited code) (event.Exited value) tells none = absurd cc
untold host _ _ tells none = absurd tells

moving_so : (status : Status HostCall Trap) (deep : Bool) → (is_moving status && deep) ≡ true → (status ≡ Moving) × (deep ≡ true)
moving_so Moving deep is = (refl, is)
moving_so (Waits call) deep is = absurd (true≢false (sym is))
moving_so Returned deep is = absurd (true≢false (sym is))
moving_so (Exited code) deep is = absurd (true≢false (sym is))
moving_so (Trapped why) deep is = absurd (true≢false (sym is))

module _ (C : Course) (most : ℕ) (x : Recorded) where
  pub ends_told : (e : Event) (last : RunEnd) → TellsStatus C.host e (status_at C x) → end_by e ≡ Some last → EndsBy true C most (place_of x) last
  ends_told e last tells told = told_end C most x (status_at C x) e last refl tells told

  module _ (seated : IsSeated most x) (stands : IsAt C x) where
    pub seen_done : is_done C most (place_of x) ≡ (has_ended (status_at C x) || (nat_eq x.steps most || (is_deep_at C x || (is_waiting C x && are_many x.answers))))
    seen_done = done_is C most x stands seated.room (is_deep_at C x) (deep_by (status_at C x) (C.deep (state_at C x)))

    -- where its limit of steps is reached
    pub done_steps : x.steps ≡ most → is_done C most (place_of x) ≡ true
    done_steps all =
        seen_done
        ∙ or_right (has_ended (status_at C x)) (nat_eq x.steps most || (is_deep_at C x || (is_waiting C x && are_many x.answers)))
        (or_left (nat_eq x.steps most) (is_deep_at C x || (is_waiting C x && are_many x.answers)) (eq-eqb x.steps most all))

    -- where it has ended, or its next step would be too deep
    pub done_ended : has_ended (status_at C x) ≡ true → is_done C most (place_of x) ≡ true
    done_ended ended = seen_done ∙ or_left (has_ended (status_at C x)) (nat_eq x.steps most || (is_deep_at C x || (is_waiting C x && are_many x.answers))) ended

    pub done_deep : is_deep_at C x ≡ true → is_done C most (place_of x) ≡ true
    done_deep deep =
        seen_done
        ∙ or_right (has_ended (status_at C x)) (nat_eq x.steps most || (is_deep_at C x || (is_waiting C x && are_many x.answers)))
        (or_right (nat_eq x.steps most) (is_deep_at C x || (is_waiting C x && are_many x.answers)) (or_left (is_deep_at C x) (is_waiting C x && are_many x.answers) deep))

    -- where neither an end nor another limit is seen
    pub done_last : has_ended (status_at C x) ≡ false → (x.steps ≡ most → ⊥) → is_deep_at C x ≡ false → is_done C most (place_of x) ≡ (is_waiting C x && are_many x.answers)
    done_last going other deep =
        seen_done
        ∙ ap (λ b. b || (nat_eq x.steps most || (is_deep_at C x || (is_waiting C x && are_many x.answers)))) going
        ∙ ap (λ b. b || (is_deep_at C x || (is_waiting C x && are_many x.answers))) (ne_eqb x.steps most other)
        ∙ ap (λ b. b || (is_waiting C x && are_many x.answers)) deep

    pub ends_steps : (e : Event) → TellsStatus C.host e (status_at C x) → end_by e ≡ None → x.steps ≡ most → EndsBy true C most (place_of x) end.StepLimit
    ends_steps e tells none all = ends_at_steps C most x stands seated.room (untold C.host (status_at C x) e tells none) all

    pub ends_deep : is_deep_at C x ≡ true → (x.steps ≡ most → ⊥) → EndsBy true C most (place_of x) end.DepthLimit
    ends_deep deep other =
        let both = moving_so (status_at C x) (C.deep (state_at C x)) deep in
        let few = seated.few in
        (omega (arith, few, other), both.0, both.1)

    pub ends_calls : (is_waiting C x && are_many x.answers) ≡ true → (x.steps ≡ most → ⊥) → EndsBy true C most (place_of x) end.HostCallLimit
    ends_calls full other =
        let both = and_parts (is_waiting C x) (are_many x.answers) full in
        let few = seated.few in
        ends_at_calls C most x stands seated.room both.0 both.1 (omega (arith, few, other))

    pub ends_turns : (e : Event) → TellsStatus C.host e (status_at C x) → end_by e ≡ None → (x.steps ≡ most → ⊥) → is_deep_at C x ≡ false → (is_waiting C x && are_many x.answers) ≡ false
        → EndsBy true C most (place_of x) end.TurnLimit
    ends_turns e tells none other deep full = (refl, done_last (untold C.host (status_at C x) e tells none) other deep ∙ full)

-- ---- the same of a program of a board

pub done_of : (most : ℕ) (s : Seat) (t : StoreRun) (done : Bool) → t ≡ s.store → done ≡ is_done (set_course t.linked) most (place_of t.run) → done ≡ true → IsDone most s
done_of most s t done same told is = subst (λ (u : StoreRun). is_done (set_course u.linked) most (place_of u.run) ≡ true) same (sym told ∙ is)

pub goes_of : (most p : ℕ) (seats : List Seat) (s : Seat) (t : StoreRun) (done : Bool) → slice_get seats p ≡ Some s → t ≡ s.store → done ≡ is_done (set_course t.linked) most (place_of t.run) → done ≡ false → SomeGoes most seats
goes_of most p seats s t done at same told is = (p, s, at, subst (λ (u : StoreRun). is_done (set_course u.linked) most (place_of u.run) ≡ false) same (sym told ∙ is))
