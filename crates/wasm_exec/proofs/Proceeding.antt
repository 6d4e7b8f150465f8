-- A driven run after further steps, and at its end.
use Rattle.std.proofs.Common.{◌≡◌, ℕ, ◌<◌, ◌≤◌, true, false, true≢false, refl, [], ◌++◌, append-nil, Option, Some, None, Result, Ok, Err, IfOk, OnOk, is_some, sym, ap, ◌∙◌, subst, arith}
use Rattle.std.specs.Prelude.{◌&&◌}
use Rattle.spec_hosts.specs.wasm_form.declared.memory.Memory.{Memory}
use Rattle.spec_hosts.specs.wasm_form.declared.runtime.Asked.{Asked}
use Rattle.spec_hosts.specs.wasm_form.declared.runtime.Trap.{Trap}
use Rattle.spec_hosts.specs.spec_runs.Systems.{Status, Moving, Waits, Returned, Exited, Trapped}
use Rattle.spec_hosts.specs.spec_runtime.Names.{HostName}
use Rattle.spec_hosts.specs.spec_runtime.Hosts.{HostCall}
use Rattle.spec_hosts.specs.spec_runtime.Recorded.{Recorded, waits}
use Rattle.spec_hosts.specs.Devices.{Devices, KeepsFronts}
use Rattle.spec_hosts.specs.Hosted.{Embedder, Hosted, BreaksOff}
use Rattle.spec_hosts.specs.Ends.{are_many, taken_of, taken_by, Makes, AreHosted, IsCutShort}
use Rattle.spec_hosts.specs.declared.ran.Ran.{Ran}
use Rattle.spec_hosts.specs.declared.ran.RunEnd.{RunEnd}
use Rattle.spec_hosts.specs.declared.ran.RunEnd.TheVariants as end
use Rattle.spec_hosts.proofs.Fronts.{breaks_none, run_fronts, cut_fronts}
use Rattle.wasm_exec.specs.declared.driver.Driver.{Driver}
use Rattle.spec_hosts.specs.spec_runtime.Courses.{Course, reached, status_at, memory_at}
use Rattle.run_loaded.specs.Courses.{Origin, course_of}
use Rattle.run_loaded.specs.Programs.{recorded_of}
use Rattle.wasm_exec.specs.Driving.{Progress, IsAskedOf, event_reached, IsRunning, KeepsCalls, Grows, StepGives, HasEnded, IsDriven, IsPrepared, CourseGives, Proceeds, ran_of, progress_of, Drives, Prepared, GoesAlong, Steps, EndsSo, Comes}
use Rattle.wasm_exec.proofs.Answering.{asked_call_of, taken_all, none_left}
use Rattle.wasm_exec.proofs.Readiness.{ready_still}
use Rattle.wasm_exec.proofs.Stepping.{no_event}

module _ {C : Course} {embedder : Embedder} {p : Progress} {begun now : Devices} where
  -- further steps without a host call
  pub driven_on : IsDriven C embedder p begun now → (new : Progress) → IsRunning C embedder.names new × KeepsCalls C p.run new.run → IsDriven C embedder new begun now
  driven_on driven new on = record {
    running = on.0;
    hosted =
        let h = driven.hosted in
        (h.0, on.1.calls h.0 h.1, subst (λ given. Hosted embedder h.0 given begun now) (sym on.1.answers) h.2);
  }

  grown : IsPrepared C embedder p begun now → (new : Recorded) → Grows C p.run new → AreHosted C.system embedder C.opening new.steps new.answers begun now
  grown prepared new grows = ((reached C p.run).events, grows.events, subst (λ given. Hosted embedder (reached C p.run).events given begun now) (sym grows.answers) prepared.hosted)

  -- a step
  proceeds : IsPrepared C embedder p begun now → (most : ℕ) → p.run.steps < most → (o : Option RunEnd) (new : Progress) → StepGives C embedder.names o p new → Proceeds C embedder most (Ok o) new begun now
  proceeds prepared most lt None new gives = record { running = gives.0; hosted = grown prepared new.run gives.1 }
  proceeds prepared most lt (Some end) new gives = record { runs = gives.0 most lt; hosted = grown prepared new.run gives.1 }

  made : IsDriven C embedder p begun now → (most : ℕ) → p.run.steps ≤ most → Makes C.system C.deep C.opening most p.run.steps p.run.answers
  made driven most few = record { few = few; real = driven.running.stands.real; free = driven.running.free }

  -- the answers were taken
  taken_whole : IsDriven C embedder p begun now → taken_by C.system p.run.steps C.opening p.run.answers ≡ p.run.answers
  taken_whole driven = ap (taken_of p.run.answers) (none_left C embedder.names p driven.running) ∙ taken_all p.run.answers

  -- memory was wanting
  pub cut_short : IsDriven C embedder p begun now → (most : ℕ) → p.run.steps ≤ most → (after : Devices) → BreaksOff embedder (event_reached C p.run) now after
      → IsCutShort C.system C.deep embedder C.opening most begun after
  cut_short driven most few after broken = record {
    steps = p.run.steps;
    given = p.run.answers;
    middle = now;
    made = made driven most few;
    hosted = driven.hosted;
    broken = broken;
  }

  -- before a use was begun
  pub cut_here : IsDriven C embedder p begun now → (most : ℕ) → p.run.steps ≤ most → IsCutShort C.system C.deep embedder C.opening most begun now
  cut_here driven most few = cut_short driven most few now (breaks_none embedder (event_reached C p.run) now)

  pub step_proceeds : IsPrepared C embedder p begun now → (most : ℕ) → p.run.steps < most → (r : Result (Option RunEnd) Memory) (new : Progress)
      → IfOk r (λ o. StepGives C embedder.names o p new) → IsCutShort C.system C.deep embedder C.opening most begun now → Proceeds C embedder most r new begun now
  step_proceeds prepared most lt (Ok o) new gives cut = proceeds prepared most lt o new gives
  step_proceeds prepared most lt (Err why) new gives cut = cut

  -- no further host call is answered
  pub full : IsDriven C embedder p begun now → (most : ℕ) → p.run.steps < most → (is_some p.asked && are_many p.run.answers) ≡ true
      → CourseGives C embedder most (Ok (ran_of end.HostCallLimit p.run)) begun now
  full driven most lt due = by p.asked due driven.running.asks
    where
      by : (asked : Option Asked) → (is_some asked && are_many p.run.answers) ≡ true → IsAskedOf C.host (status_at C p.run) asked → CourseGives C embedder most (Ok (ran_of end.HostCallLimit p.run)) begun now
      by None due asks = absurd (true≢false (sym due))
      by (Some asked) due asks =
          let call = asked_call_of C.host (status_at C p.run) asked asks in
          record {
            runs = record {
              made = made driven most (omega arith);
              ends = (lt, (call.call, call.waits), ap are_many (taken_whole driven) ∙ due);
            };
            hosted = driven.hosted;
          }

  -- all the steps were made
  pub finished : IsDriven C embedder p begun now → (most : ℕ) → p.run.steps ≡ most → (end : RunEnd) → HasEnded C p.run.steps end p.run → CourseGives C embedder most (Ok (ran_of end p.run)) begun now
  finished driven most all end ended = record {
    runs = subst (λ n. HasEnded C n end p.run) all ended;
    hosted = driven.hosted;
  }

-- ---- a run that asks for nothing

unasked_still : (host : ℕ → Option HostName) (status : Status HostCall Trap) → IsAskedOf host status None → waits status ≡ false
unasked_still host (Waits call) asks = absurd asks
unasked_still host Moving asks = refl
unasked_still host Returned asks = refl
unasked_still host (Exited code) asks = refl
unasked_still host (Trapped why) asks = refl

module _ {C : Course} {embedder : Embedder} {p : Progress} {begun now : Devices} where
  -- it may make a step as it stands
  pub nothing_asked : IsDriven C embedder p begun now → p.asked ≡ None → IsPrepared C embedder p begun now × BreaksOff embedder (event_reached C p.run) now now
  nothing_asked driven none =
      let still = unasked_still C.host (status_at C p.run) (subst (IsAskedOf C.host (status_at C p.run)) none driven.running.asks) in
      let silent : event_reached C p.run ≡ [] = no_event (status_at C p.run) (memory_at C p.run) still in
      let h = driven.hosted in (
        record {
          ready = ready_still C embedder.names p driven.running still;
          hosted = subst (λ es. Hosted embedder es p.run.answers begun now) (sym (h.1 ∙ ap (λ l. h.0 ++ l) silent ∙ append-nil h.0)) h.2;
        },
        breaks_none embedder (event_reached C p.run) now,
      )

-- whatever came of a run, what the sinks held stays in front
pub course_fronts : (C : Course) (embedder : Embedder) (most : ℕ) (r : Result Ran Memory) (begun now : Devices) → CourseGives C embedder most r begun now → KeepsFronts begun now
course_fronts C embedder most (Ok r) begun now gives = run_fronts embedder C.system C.deep C.opening most begun now r gives
course_fronts C embedder most (Err why) begun now gives = cut_fronts embedder C.system C.deep C.opening most begun now gives

-- ---- the same of a driver, whatever it is that it runs

module _ (o : Origin) (old : Driver) {embedder : Embedder} {begun now : Devices} where
  -- further steps of code
  pub driven_along : Drives embedder o old begun now → (new : Driver) → GoesAlong old new → Drives embedder o new begun now
  driven_along drives new along =
      let on = along o embedder.names (drives.0, drives.1.running) in
      (on.0.0, driven_on drives.1 (progress_of new) (on.0.1, on.1))

  -- one step more
  pub steps_so : Prepared embedder o old begun now → (new : Driver) (r : Result (Option RunEnd) Memory) → IfOk r (λ end. Steps end old new)
      → IfOk r (λ end. StepGives (course_of o) embedder.names end (progress_of old) (progress_of new))
  steps_so prepared new (Ok end) steps = (steps o embedder.names (prepared.0, prepared.1.ready)).1
  steps_so prepared new (Err why) steps = tt

  -- the end, or want of memory there
  pub comes_last : Drives embedder o old begun now → (most : ℕ) → (recorded_of old.program).steps ≡ most → (new : Driver) (r : Result RunEnd Memory) → IfOk r (λ end. EndsSo end old)
      → OnOk r (recorded_of new.program ≡ recorded_of old.program) → Comes (course_of o) embedder most r (recorded_of new.program) begun now
  comes_last drives most all new (Ok end) ended same = rw same (finished drives.1 most all end (ended o embedder.names (drives.0, drives.1.running)))
  comes_last drives most all new (Err why) ended same = cut_here drives.1 most (omega arith)
