-- Whether a run waits for a call of a trace, and how many answers there may be.
use Rattle.std.proofs.Common.{◌≡◌, ◌<◌, ℕ, Bool, true, false, true≢false, List, length, map, sum, Option, Some, None, sym, ◌∙◌, subst}
use Rattle.std.specs.Prelude.{Decides, nat_le, ◌||◌}
use Rattle.std.proofs.lemmas.Bool.{leb-false}
use Rattle.std.proofs.lemmas.Option.{same_Some}
use Rattle.spec_traces.specs.spec_hosts.wasm_form.declared.runtime.Trap.{Trap}
use Rattle.spec_traces.specs.spec_hosts.wasm_form.declared.runtime.Answer.{Answer}
use Rattle.spec_traces.specs.spec_hosts.wasm_form.declared.runtime.Asked.{Asked}
use Rattle.spec_traces.specs.spec_hosts.spec_runs.Systems.{Status, Moving, Waits, Returned, Exited, Trapped}
use Rattle.spec_traces.specs.spec_hosts.spec_runtime.Memories.{MemoryInstance}
use Rattle.spec_traces.specs.spec_hosts.spec_runtime.Names.{HostName}
use Rattle.spec_traces.specs.spec_hosts.spec_runtime.Hosts.{HostCall, fits_results}
use Rattle.spec_traces.specs.spec_hosts.spec_runtime.Recorded.{Recorded, waits}
use Rattle.spec_traces.specs.spec_hosts.spec_runtime.Courses.{Course, state_at, status_at}
use Rattle.spec_traces.specs.spec_hosts.Ends.{bytes_written, are_many, most_answers, most_written, is_due}
use Rattle.spec_traces.specs.declared.trace.TraceCall.{TraceCall}
use Rattle.spec_traces.specs.Traces.{IsAsked}
use Rattle.wasm_machine.specs.declared.event.Event.TheVariants as event
use Rattle.wasm_machine.specs.Steps.{TellsStatus}
use Rattle.replay_check.specs.Following.{IsAskedOf, is_full}
use Rattle.replay_check.proofs.Following.{wait_due}
use Rattle.replay_check.proofs.Telling.{waits_for}

-- ---- a call of the trace

-- the call has this function and these arguments
abbrev pub Names : HostName → List ℕ → TraceCall → Type 0
Names h args c = (h.module_name ≡ c.«module») × (h.name ≡ c.name) × (args ≡ c.args)

module _ (host : ℕ → Option HostName) (status : Status HostCall Trap) (memory : MemoryInstance) (asked : Asked) (c : TraceCall) (tells : TellsStatus host (event.Waits asked) status) (h : HostName)
    (there : host asked.entry ≡ Some h) where
  abbrev call_of : HostCall
  call_of = record { host = h; args = asked.args }

  waits_so : status ≡ Waits call_of
  waits_so =
      let wait = waits_for host asked status tells in
      wait.waits ∙ (λ i. Waits (record { host = same_Some wait.call.host h (sym wait.there ∙ there) i; args = sym wait.args i }))

  -- it isn't waited for, where it has another function or other arguments
  pub other_call : (Names h asked.args c → ⊥) → IsAsked c status memory → ⊥
  other_call isnt is = (let asks = subst (λ status. IsAsked c status memory) waits_so is in isnt (asks.0, asks.1, asks.2))

  -- else it is waited for, if its answer fits
  pub same_call : Names h asked.args c → Decides (fits_results h.ty.results memory c.answer) (IsAsked c status memory)
  same_call names = (
    λ fits. subst (λ status. IsAsked c status memory) (sym waits_so) (names.0, names.1, names.2, fits),
    λ is. (subst (λ status. IsAsked c status memory) waits_so is).3,
  )

-- none is waited for, where nothing is asked
pub none_asked : (status : Status HostCall Trap) (memory : MemoryInstance) (c : TraceCall) → waits status ≡ false → IsAsked c status memory → ⊥
none_asked (Waits call) memory c still is = true≢false still
none_asked Moving memory c still is = is
none_asked Returned memory c still is = is
none_asked (Exited code) memory c still is = is
none_asked (Trapped why) memory c still is = is

-- ---- how many answers

or_right : (a b : Bool) → (a || b) ≡ false → b ≡ false
or_right true b e = absurd (true≢false e)
or_right false b e = e

-- these have written few bytes, where they are not too many
pub few_written : (given : List Answer) → are_many given ≡ false → sum (map bytes_written given) < most_written
few_written given few = leb-false most_written (sum (map bytes_written given)) (or_right (nat_le most_answers (length given)) (nat_le most_written (sum (map bytes_written given))) few)

module _ (C : Course) (x : Recorded) (asked : Option Asked) (asks : IsAskedOf C.host (status_at C x) asked) where
  -- a limit of answers that is due
  pub full_due : is_full asked x ≡ true → is_due C.system C.deep (state_at C x) x.answers ≡ true
  full_due full = by asked asks full
    where
      by : (asked : Option Asked) → IsAskedOf C.host (status_at C x) asked → is_full asked x ≡ true → is_due C.system C.deep (state_at C x) x.answers ≡ true
      by None asks full = absurd (true≢false (sym full))
      by (Some a) asks full = (let wait = waits_for C.host a (status_at C x) asks in wait_due C (state_at C x) x.answers wait.call wait.waits ∙ full)

  -- where the run waits, none is due but that
  pub room_free : waits (status_at C x) ≡ true → is_full asked x ≡ false → is_due C.system C.deep (state_at C x) x.answers ≡ false
  room_free waiting room = by asked asks room
    where
      by : (asked : Option Asked) → IsAskedOf C.host (status_at C x) asked → is_full asked x ≡ false → is_due C.system C.deep (state_at C x) x.answers ≡ false
      by None still room = absurd (true≢false (sym waiting ∙ still))
      by (Some a) asks room = (let wait = waits_for C.host a (status_at C x) asks in wait_due C (state_at C x) x.answers wait.call wait.waits ∙ room)
