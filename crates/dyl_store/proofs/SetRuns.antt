-- What the recorder asks of the run of a linked set.
use Rattle.std.proofs.Common.{◌≡◌, ℕ, Option, Some, false, refl, sym, ap, ◌∙◌, subst, inl, inr}
use Rattle.wasm_form.specs.declared.runtime.Answer.{Answer}
use Rattle.spec_loading.specs.spec_runs.Systems.{Moving}
use Rattle.spec_loading.specs.spec_runtime.Names.{HostName}
use Rattle.spec_loading.specs.spec_runtime.Recorded.{waits}
use Rattle.spec_loading.specs.spec_runtime.Courses.{state_at}
use Rattle.spec_loading.specs.spec_execution.Runs.{taken}
use Rattle.spec_loading.specs.spec_linking.LinkedSets.{LinkedSet, set_hosts, hosts_of}
use Rattle.spec_loading.specs.Loading.{loaded_step, loaded_too_deep, with_run}
use Rattle.spec_loading.specs.LoadedSet.{SetState, set_loading, set_opening}
use Rattle.spec_loading.specs.Members.{set_view}
use Rattle.spec_loading.specs.SoundSets.{SetRunIsSound}
use Rattle.wasm_step.specs.declared.done.Done.{Done}
use Rattle.wasm_step.specs.declared.done.Done.TheVariants as done
use Rattle.wasm_machine.specs.declared.machine.Standing.{Standing}
use Rattle.wasm_machine.specs.declared.machine.Standing.TheVariants as standing
use Rattle.wasm_machine.specs.declared.event.Event.{Event}
use Rattle.wasm_machine.specs.declared.event.Event.TheVariants as event
use Rattle.wasm_machine.specs.Iterated.{Iterated}
use Rattle.wasm_machine.specs.Steps.{TellsStatus, ArgumentsFit, event_of, stands_told}
use Rattle.wasm_machine.proofs.Steps.{not_waiting, taken_goes}
use Rattle.wasm_recorder.specs.Bares.{StandsSo}
use Rattle.wasm_recorder.specs.Runs as recorded
use Rattle.wasm_recorder.proofs.Stepping.{tells_after}
use Rattle.dyl_frames.specs.Next as next
use Rattle.dyl_frames.specs.Cores as cores
use Rattle.dyl_frames.specs.Cores.{StandsAs, FitsHost}
use Rattle.dyl_store.specs.declared.running.Running.{Running}
use Rattle.dyl_store.specs.declared.set_run.SetRun.{SetRun}
use Rattle.dyl_store.specs.Stores.{set_course}
use Rattle.dyl_store.specs.Calls.{is_loader}
use Rattle.dyl_store.specs.Runs.{IsRunning, IsSomewhere, RunsAt}
use Rattle.dyl_store.specs.SetRuns.{IsTold, set_runs}
use Rattle.dyl_store.proofs.Fitting.{wait_fits_host}

-- it stands at a state, which is sound
pub somewhere_sound : SetRunIsSound → (b : SetRun) → IsRunning b.running → recorded.IsSomewhere set_runs b → IsSomewhere b.running
somewhere_sound law b running q =
    let L = b.running.linked.now in
    let x = q.2.0 in
    (state_at (set_course L) x, q.2.2.at, law L x.answers x.steps running.shape running.links running.runnable.few running.runnable.bytes q.2.3)

-- what was opened is told to go on
pub opens_so : (x : Running) → RunsAt x.linked.now x (set_opening x.linked.now) → IsTold x.linked.now (record { running = x; event = event.Moved }) (set_opening x.linked.now)
opens_so x at = record { at = at; tells = tt; fits = tt }

-- ---- how it stands

-- what the core of a run is at says how the run stands
pub core_stands : (L : LinkedSet) (x : Running) (s : SetState) (st : Standing) → StandsAs (set_loading L) x.core s st → StandsSo (hosts_of L) st s.run.status
core_stands L x s standing.Moving h = h.0
core_stands L x s (standing.Asking entry count) h = (h.0, h.1, h.2)
core_stands L x s standing.Loading h = absurd h
core_stands L x s standing.Returned h = h
core_stands L x s (standing.Trapped why) h = h
core_stands L x s (standing.Exited code) h = h
core_stands L x s standing.Lost h = absurd h

-- a machine that goes on does so of a run that goes on
pub moving_status : (L : LinkedSet) (x : Running) (s : SetState) → RunsAt L x s → x.core.machine.standing ≡ standing.Moving → s.run.status ≡ Moving
moving_status L x s at moving = subst (λ (st : Standing). StandsSo (hosts_of L) st s.run.status) moving (core_stands L x s x.core.machine.standing at.standing)

-- what is told of where a machine is asks nothing
asks_nothing : (host : ℕ → Option HostName) (st : Standing) → ArgumentsFit host (event_of st)
asks_nothing host standing.Moving = tt
asks_nothing host (standing.Asking entry count) = tt
asks_nothing host standing.Loading = tt
asks_nothing host standing.Returned = tt
asks_nothing host (standing.Trapped why) = tt
asks_nothing host (standing.Exited code) = tt
asks_nothing host standing.Lost = tt

module _ (L : LinkedSet) (o : Unit {0}) (new : SetRun) where
  -- ---- one step

  module _ (s : SetState) where
    -- a step was made, which is told so
    abbrev IsMade : Event → Type 0
    IsMade e = (loaded_too_deep (set_loading L) s ≡ false) × ((t : SetState) × (loaded_step (set_loading L) s ≡ Some t) × TellsStatus (set_hosts L) e t.run.status × RunsAt L new.running t)

    makes : (e : Event) → new.event ≡ stands_told e → stands_told e ≡ e → ArgumentsFit (set_hosts L) e → IsMade e → recorded.Makes set_runs L o e s new
    makes e told plain fits h =
        let same : e ≡ new.event = sym plain ∙ sym told in
        let at : IsTold L new h.1.0 = record { at = h.1.3; tells = subst (λ (f : Event). TellsStatus (set_hosts L) f h.1.0.run.status) same h.1.2; fits = subst (ArgumentsFit (set_hosts L)) same fits } in
        (h.0, (h.1.0, h.1.1, h.1.2, at))

    pub steps_so : s.run.status ≡ Moving → (e : Event) → is_loader e ≡ false → new.event ≡ stands_told e → ArgumentsFit (set_hosts L) e
        → cores.Steps (set_loading L) e s new.running.core new.running.world.store new.running.world.memory → recorded.Steps set_runs L o e s new
    steps_so moving event.Deep plain told fits h =
        let tells : TellsStatus (set_hosts L) event.Moved s.run.status = subst (TellsStatus (set_hosts L) event.Moved) (sym moving) tt in
        let at : IsTold L new s = record { at = h.2; tells = subst (λ (f : Event). TellsStatus (set_hosts L) f s.run.status) (sym told) tells; fits = subst (ArgumentsFit (set_hosts L)) (sym told) tt } in
        (h.0, at)
    steps_so moving event.Moved plain told fits h = makes event.Moved told refl fits h
    steps_so moving (event.Waits asked) plain told fits h = makes (event.Waits asked) told refl fits h
    steps_so moving (event.Loader which first second) plain told fits h = absurd cc
    steps_so moving (event.Marked tag) plain told fits h = makes (event.Marked tag) told refl fits h
    steps_so moving event.Returned plain told fits h = makes event.Returned told refl fits h
    steps_so moving (event.Trapped why) plain told fits h = makes (event.Trapped why) told refl fits h
    steps_so moving (event.Exited code) plain told fits h = makes (event.Exited code) told refl fits h

  -- ---- a run that doesn't wait is told by where its machine is

  module _ (told : new.event ≡ event_of new.running.core.machine.standing) where
    pub told_at : (t : SetState) → RunsAt L new.running t → waits t.run.status ≡ false → IsTold L new t
    told_at t at goes = record {
      at = at;
      tells = subst (λ (f : Event). TellsStatus (set_hosts L) f t.run.status) (sym told) (tells_after (hosts_of L) (set_hosts L) t.run.status new.running.core.machine.standing (core_stands L new.running t new.running.core.machine.standing at.standing) goes);
      fits = subst (ArgumentsFit (set_hosts L)) (sym told) (asks_nothing (set_hosts L) new.running.core.machine.standing);
    }

    -- and a run that goes on
    told_moving : (t : SetState) → RunsAt L new.running t → new.running.core.machine.standing ≡ standing.Moving → IsTold L new t
    told_moving t at moves = told_at t at (ap waits (moving_status L new.running t at moves))

    made_end : (e : Event) (s : SetState) → ((t : SetState) → TellsStatus (set_hosts L) e t.run.status → waits t.run.status ≡ false) → IsMade s e → recorded.Makes set_runs L o e s new
    made_end e s goes h = (h.0, (h.1.0, h.1.1, h.1.2, told_at h.1.0 h.1.3 (goes h.1.0 h.1.2)))

    left_so : (s : SetState) → new.running.core.machine.standing ≡ standing.Moving → RunsAt L new.running s → (next.IsCodeNext (set_loading L) s → ⊥) → IsTold L new s × (recorded.IsCodeNext set_runs L o s → ⊥)
    left_so s moves at none = (told_moving s at moves, λ c. none (c.0, c.1.0, c.2, c.3, c.1.1))

    stops_so : (d : Done) (s : SetState) → cores.StopsAt (set_loading L) d s new.running.core new.running.world.store new.running.world.memory → recorded.StopsAt set_runs L o d s new
    stops_so done.Goes s (inl h) = told_moving s h.2 h.1
    stops_so done.Goes s (inr h) = absurd (h.0 refl)
    stops_so done.Returned s (inl h) = absurd (let clash = h.0 in cc)
    stops_so done.Returned s (inr h) = (h.1.0, made_end event.Returned s (λ t tells. not_waiting (set_hosts L) event.Returned t.run.status (λ call q. q) tells) h.1.1)
    stops_so (done.Trapped why) s (inl h) = absurd (let clash = h.0 in cc)
    stops_so (done.Trapped why) s (inr h) = (h.1.0, made_end (event.Trapped why) s (λ t tells. not_waiting (set_hosts L) (event.Trapped why) t.run.status (λ call q. q) tells) h.1.1)
    stops_so done.Exited s (inl h) = absurd (let clash = h.0 in cc)
    stops_so done.Exited s (inr h) = h.1
    stops_so done.NoMemory s (inl h) = absurd (let clash = h.0 in cc)
    stops_so done.NoMemory s (inr h) = h.1
    stops_so done.Marked s (inl h) = absurd (let clash = h.0 in cc)
    stops_so done.Marked s (inr h) = left_so s h.1.0 h.1.1 h.1.2
    stops_so done.Deep s (inl h) = absurd (let clash = h.0 in cc)
    stops_so done.Deep s (inr h) = left_so s h.1.0 h.1.1 h.1.2
    stops_so done.Outside s (inl h) = absurd (let clash = h.0 in cc)
    stops_so done.Outside s (inr h) = left_so s h.1.0 h.1.1 h.1.2

    -- so many steps of code, and what one more comes to
    pub runs_so : (s : SetState) (n : ℕ) (d : Done)
        → (u : SetState) × Iterated (cores.CodeStep (set_loading L)) n s u × cores.StopsAt (set_loading L) d u new.running.core new.running.world.store new.running.world.memory
        → (u : SetState) × Iterated (recorded.CodeStep set_runs L o) n s u × recorded.StopsAt set_runs L o d u new
    runs_so s n d h = (h.0, h.1, stops_so d h.0 h.2)

    -- an answer was taken
    pub takes_so : (a : Answer) (s : SetState) → RunsAt L new.running (with_run s (taken a s.run)) → IsTold L new (with_run s (taken a s.run)) × (waits (taken a s.run).status ≡ false)
    takes_so a s at = (told_at (with_run s (taken a s.run)) at (taken_goes a s.run), taken_goes a s.run)

-- ---- answers

-- an answer that fits what is waited for fits the host function that is asked
pub fits_so : (b : SetRun) (a : Answer) → IsRunning b.running → recorded.MayTake set_runs b a → FitsHost (set_view b.running.world.linked) b.running.world.memory a b.running.core.machine.standing
fits_so b a running h = wait_fits_host b.running running h.2.0 h.2.1.at a h.2.2
