-- A run that follows a trace, whatever it is that is run, after a step.
use Rattle.std.proofs.Common.{◌≡◌, ◌≤◌, ◌<◌, ℕ, suc, ◌+◌, Bool, true, false, true≢false, map, sum, slice_get, Option, Some, None, is_some, refl, sym, ap, ◌∙◌, subst, arith}
use Rattle.std.specs.Prelude.{Decides, MatchBool}
use Rattle.spec_traces.specs.spec_hosts.wasm_form.declared.runtime.Trap.{Trap}
use Rattle.spec_traces.specs.spec_hosts.wasm_form.declared.runtime.Asked.{Asked}
use Rattle.spec_traces.specs.spec_hosts.spec_runs.Systems.{Status, Moving, Waits, Returned, Exited, Trapped}
use Rattle.spec_traces.specs.spec_hosts.spec_runtime.Names.{HostName}
use Rattle.spec_traces.specs.spec_hosts.spec_runtime.Hosts.{HostCall, fits_results}
use Rattle.spec_traces.specs.spec_hosts.spec_runtime.Recorded.{Recorded, has_ended, waits}
use Rattle.spec_traces.specs.spec_hosts.spec_runtime.Courses.{Course, state_at, status_at, memory_at, IsAt, with_answer}
use Rattle.spec_traces.specs.spec_hosts.Ends.{bytes_written, are_many}
use Rattle.spec_traces.specs.declared.trace.Trace.{Trace}
use Rattle.spec_traces.specs.declared.trace.TraceCall.{TraceCall}
use Rattle.spec_traces.specs.Traces.{Agrees}
use Rattle.wasm_machine.specs.declared.event.Event.{Event}
use Rattle.wasm_machine.specs.Steps.{RunStepped}
use Rattle.run_limits.proofs.Answered.{written_more}
use Rattle.run_loaded.specs.declared.loaded.Loaded.{Loaded}
use Rattle.run_loaded.specs.Courses.{Origin, course_of}
use Rattle.run_loaded.specs.Programs.{recorded_of, IsOf}
use Rattle.run_loaded.specs.Events.{asked_by}
use Rattle.replay_check.specs.declared.replay.Replay.{Replay}
use Rattle.replay_check.specs.Following.{IsAskedOf, HasFollowed, is_held, is_deep, own_end, is_full, run_of, Follows, GoesAlong, Stops, Asks, AtCall}
use Rattle.replay_check.proofs.Agreeing.{asked_call}
use Rattle.replay_check.proofs.Following.{agrees_here, asked_here, has_stepped, has_taken, state_answered, held_still}
use Rattle.replay_check.proofs.Asking.{Names, other_call, same_call, room_free}
use Rattle.replay_check.proofs.Ending.{none_own}
use Rattle.replay_check.proofs.Telling.{waits_for, asked_so, moving_so, step_told, deep_told}

-- ---- what is asked

-- it doesn't wait where nothing is asked
pub unasked_still : (host : ℕ → Option HostName) (status : Status HostCall Trap) (asked : Option Asked) → IsAskedOf host status asked → is_some asked ≡ false → waits status ≡ false
unasked_still host status None asks none = asks
unasked_still host status (Some asked) asks none = absurd (true≢false none)

-- and waits where something is
pub asked_waits : (host : ℕ → Option HostName) (status : Status HostCall Trap) (asked : Option Asked) → IsAskedOf host status asked → is_some asked ≡ true → waits status ≡ true
asked_waits host status None asks some = absurd (true≢false (sym some))
asked_waits host status (Some asked) asks some = ap waits (waits_for host asked status asks).waits

module _ (o : Origin) (t : Trace) (k : ℕ) (r : Replay) where
  abbrev C : Course
  C = course_of o

  abbrev x : Recorded
  x = run_of r

  module _ (f : Follows o t k r) where
    -- ---- a call of the trace

    module _ (a : Asked) (is : r.asked ≡ Some a) (h : HostName) (there : C.host a.entry ≡ Some h) (c : TraceCall) where
      tells : IsAskedOf C.host (status_at C x) (Some a)
      tells = subst (IsAskedOf C.host (status_at C x)) is f.asks

      -- it isn't what is asked
      pub isnt_asked : Decides false (Names h a.args c) → Decides false (Asks o c r)
      isnt_asked other = (
        λ no. absurd (true≢false (sym no)),
        λ asks. absurd (other_call C.host (status_at C x) (memory_at C x) a c tells h there (λ names. true≢false (sym (other.1 names))) asks),
      )

      -- or it is, where its answer fits
      pub fits_asked : Decides true (Names h a.args c) → (fits : Bool) → fits ≡ fits_results h.ty.results (memory_at C x) c.answer → Decides fits (Asks o c r)
      fits_asked names fits same =
          subst (λ b. Decides b (Asks o c r)) (sym same) (same_call C.host (status_at C x) (memory_at C x) a c tells h there (names.0 refl))

    -- a call agrees where it is waited for after its steps, and its answer fits
    pub meets : (c : TraceCall) → slice_get t.calls k ≡ Some c → x.steps ≡ c.steps → c.steps ≤ t.steps → (asked : Bool) → Decides asked (Asks o c r) → MatchBool asked (AtCall o t k c r) (Agrees C t k c → ⊥)
    meets c at here few true asks = record { follows = f; at = at; agrees = agrees_here C t k x f.followed c at here few (asks.0 refl); steps = here }
    meets c at here few false asks = λ agrees. true≢false (sym (asks.1 (asked_here C t k x f.followed c at here agrees)))

    -- ---- no step of its own

    pub held_asked : is_some r.asked ≡ true → is_held C (state_at C x) ≡ true
    held_asked some = held_still C (state_at C x) (λ moving. true≢false (sym (asked_waits C.host (status_at C x) r.asked f.asks some) ∙ ap waits moving))

    pub held_ended : has_ended (status_at C x) ≡ true → is_held C (state_at C x) ≡ true
    held_ended ended = held_still C (state_at C x) (λ moving. true≢false (sym ended ∙ ap has_ended moving))

    pub moves : is_some r.asked ≡ false → has_ended (status_at C x) ≡ false → status_at C x ≡ Moving
    moves none live = moving_so (status_at C x) live (unasked_still C.host (status_at C x) r.asked f.asks none)

    module _ (p : Loaded) (of : IsOf p o) (e : Event) where
      -- a step of its own
      pub goes_on : (a : Option Asked) → a ≡ asked_by e → status_at C x ≡ Moving → is_deep e ≡ false → RunStepped C e x (recorded_of p)
          → Follows o t k (record r { program = p; asked = a }) × ((recorded_of p).steps ≡ suc x.steps)
      goes_on a by moving flat h =
          let told = step_told C x (recorded_of p) e (ap has_ended moving) flat h in
          let same = told.0.1 in (
            record {
              of = of;
              followed = subst (HasFollowed C t k) (sym same) (has_stepped C t k x f.followed moving (told.1 moving) (subst (IsAt C) same told.0.2));
              asks = subst (IsAskedOf C.host (status_at C (recorded_of p))) (sym by) (asked_so C.host e (status_at C (recorded_of p)) told.0.3);
              written = f.written ∙ ap (λ (x : Recorded). sum (map bytes_written x.answers)) (sym same);
            },
            ap (λ (x : Recorded). x.steps) same,
          )

      -- ---- the end of its own

      -- none, where a step is made
      pub none_stands : is_some r.asked ≡ false → has_ended (status_at C x) ≡ false → is_deep e ≡ false → RunStepped C e x (recorded_of p) → None ≡ own_end (status_at C x) (C.deep (state_at C x))
      none_stands none live flat h =
          let moving = moves none live in
          none_own (status_at C x) (C.deep (state_at C x)) moving ((step_told C x (recorded_of p) e live flat h).1 moving)

  -- ---- an answer

  module _ (c : TraceCall) (at : AtCall o t k c r) where
    abbrev y : Recorded
    y = with_answer x c.answer

    waiting : waits (status_at C x) ≡ true
    waiting = ap waits (asked_call c (status_at C x) _ (asked_here C t k x at.follows.followed c at.at at.steps at.agrees)).waits

    status_answered : status_at C y ≡ status_at C x
    status_answered = ap C.system.status (state_answered C t k x at.follows.followed c at.at at.steps at.agrees)

    waits_answered : waits (status_at C y) ≡ true
    waits_answered = ap waits status_answered ∙ waiting

    live : (status : Status HostCall Trap) → waits status ≡ true → has_ended status ≡ false
    live (Waits call) is = refl
    live Moving is = refl
    live Returned is = absurd (true≢false (sym is))
    live (Exited code) is = absurd (true≢false (sym is))
    live (Trapped why) is = absurd (true≢false (sym is))

    -- there are not too many answers
    pub room_left : is_full r.asked x ≡ false → are_many x.answers ≡ false
    room_left = by r.asked at.follows.asks
      where
        by : (asked : Option Asked) → IsAskedOf C.host (status_at C x) asked → is_full asked x ≡ false → are_many x.answers ≡ false
        by None still room = absurd (true≢false (sym waiting ∙ still))
        by (Some a) asks room = room

    pub takes : (p : Loaded) → IsOf p o → (a : Option Asked) (e : Event) (w : ℕ) → a ≡ asked_by e → w ≡ r.written + bytes_written c.answer → is_full r.asked x ≡ false → RunStepped C e y (recorded_of p)
        → Follows o t (suc k) (record r { program = p; asked = a; written = w }) × ((recorded_of p).steps ≡ suc x.steps)
    takes p of a e w by counted room h = go (is_deep e) refl
      where
        go : (deep : Bool) → is_deep e ≡ deep → Follows o t (suc k) (record r { program = p; asked = a; written = w }) × ((recorded_of p).steps ≡ suc x.steps)
        go true deep = absurd (true≢false (sym waits_answered ∙ ap waits (deep_told C y (recorded_of p) e deep h).0))
        go false flat =
            let told = step_told C y (recorded_of p) e (live (status_at C y) waits_answered) flat h in
            let same = told.0.1 in (
              record {
                of = of;
                followed = subst (HasFollowed C t (suc k)) (sym same)
                    (has_taken C t k x at.follows.followed c at.at at.steps at.agrees (room_free C x r.asked at.follows.asks waiting room) (subst (IsAt C) same told.0.2));
                asks = subst (IsAskedOf C.host (status_at C (recorded_of p))) (sym by) (asked_so C.host e (status_at C (recorded_of p)) told.0.3);
                written = counted ∙ ap (λ n. n + bytes_written c.answer) at.follows.written ∙ sym (written_more x.answers c.answer) ∙ ap (λ (x : Recorded). sum (map bytes_written x.answers)) (sym same);
              },
              ap (λ (x : Recorded). x.steps) same,
            )

-- ---- several steps

-- one step behind further ones
pub went : (goes : Bool) (old middle new : Replay) (steps : ℕ) → (run_of old).steps ≤ (run_of middle).steps → (run_of middle).steps < steps → GoesAlong old middle
    → MatchBool goes ((run_of new).steps ≡ suc (run_of middle).steps) (((run_of new).steps ≡ (run_of middle).steps) × Stops middle new)
    → MatchBool goes ((run_of old).steps < (run_of new).steps) (((run_of new).steps < steps) × Stops old new)
went true old middle new steps more few along h = omega arith
went false old middle new steps more few along h = (let same = h.0 in omega arith, λ o t k f. h.1 o t k (along o t k f))
