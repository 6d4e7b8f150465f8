-- A run whose host call is answered.
use Rattle.std.proofs.Common.{◌≡◌, ℕ, ◌<◌, ◌+◌, true, false, List, [], ◌∷◌, ◌++◌, length, map, take, slice_get, Option, Some, IsTrue, refl, sym, ap, ◌∙◌, subst}
use Rattle.std.proofs.Math.Nat.{sub-zero}
use Rattle.std.proofs.Math.Seq.{take-length}
use Rattle.std.proofs.lemmas.Option.{same_Some}
use Rattle.spec_hosts.specs.wasm_form.declared.runtime.Trap.{Trap}
use Rattle.spec_hosts.specs.wasm_form.declared.runtime.Answer.{Answer}
use Rattle.spec_hosts.specs.wasm_form.declared.runtime.Asked.{Asked}
use Rattle.spec_hosts.specs.spec_runs.Systems.{Status, Moving, Waits, Returned, Exited, Trapped, Ran, event_at}
use Rattle.spec_hosts.proofs.of_spec_runs.Runs.{run_append, real_append}
use Rattle.spec_hosts.specs.spec_runtime.Memories.{MemoryInstance}
use Rattle.spec_hosts.specs.spec_runtime.Names.{HostName, HostNames}
use Rattle.spec_hosts.specs.spec_runtime.Hosts.{HostCall, hosts, answer_fits, numbers_fit}
use Rattle.spec_hosts.specs.spec_runtime.Recorded.{Recorded, AreLeft}
use Rattle.spec_hosts.specs.Devices.{Devices}
use Rattle.spec_hosts.specs.Hosted.{Embedder, IsHosted, Hosted, IsBroken, BreaksOff}
use Rattle.spec_hosts.specs.Ends.{bytes_written, are_many, taken_of}
use Rattle.dyl_link.specs.host_table.Names.{host_name_of}
use Rattle.dyl_link.specs.host_table.declared.host.HostName as code
use Rattle.spec_hosts.specs.spec_runtime.Courses.{Course, reached, status_at, memory_at, IsAt, with_answer}
use Rattle.wasm_machine.specs.Steps.{Awaits}
use Rattle.run_limits.proofs.Answered.{written_more}
use Rattle.run_loaded.proofs.Hosts.{entry_within}
use Rattle.wasm_exec.specs.Driving.{Progress, IsAskedOf, event_reached, IsRunning, IsReady, IsDriven, IsPrepared}
use Rattle.wasm_exec.proofs.Hosting.{hosted_last}
use Rattle.wasm_exec.proofs.Limits.{taken_append, free_append}

-- what is asked is a call that the run waits for
pub record IsCall (host : ℕ → Option HostName) (status : Status HostCall Trap) (asked : Asked) : Type 0 where
  pub call : HostCall
  pub waits : status ≡ Waits call
  pub there : host asked.entry ≡ Some call.host
  pub args : asked.args ≡ call.args
  pub fits : IsTrue (numbers_fit call.host.ty.params call.args)

pub asked_call_of : (host : ℕ → Option HostName) (status : Status HostCall Trap) (asked : Asked) → IsAskedOf host status (Some asked) → IsCall host status asked
asked_call_of host (Waits call) asked asks = record { call = call; waits = refl; there = asks.0; args = asks.1; fits = asks.2 }
asked_call_of host Moving asked asks = absurd asks
asked_call_of host Returned asked asks = absurd asks
asked_call_of host (Exited code) asked asks = absurd asks
asked_call_of host (Trapped why) asked asks = absurd asks

pub taken_all : (given : List Answer) → taken_of given [] ≡ given
taken_all given = ap (λ n. take n given) (sub-zero (length given)) ∙ take-length given

module _ (C : Course) (names : HostNames) (p : Progress) (running : IsRunning C names p) where
  abbrev old : Recorded
  old = p.run

  abbrev at : Ran hosts C.system.State
  at = reached C p.run

  pub none_left : at.left ≡ []
  none_left = subst (λ b. AreLeft b (status_at C old) (memory_at C old) at.left) running.taken running.stands.left

  module _ (asked : Asked) (asks : p.asked ≡ Some asked) (h : HostName) (there : C.host asked.entry ≡ Some h) where
    abbrev asked_call : HostCall
    asked_call = record { host = h; args = asked.args }

    is_call : IsCall C.host (status_at C old) asked
    is_call = asked_call_of C.host (status_at C old) asked (subst (IsAskedOf C.host (status_at C old)) asks running.asks)

    same_call : is_call.call ≡ asked_call
    same_call = λ i. record { host = same_Some is_call.call.host h (sym is_call.there ∙ there) i; args = sym is_call.args i }

    pub call_fits : IsTrue (numbers_fit h.ty.params asked.args)
    call_fits = subst (λ (c : HostCall). IsTrue (numbers_fit c.host.ty.params c.args)) same_call is_call.fits

    waits_so : status_at C old ≡ Waits asked_call
    waits_so = is_call.waits ∙ ap Waits same_call

    module _ (a : Answer) (memory : MemoryInstance) (seen : memory ≡ memory_at C old) (fits : IsTrue (answer_fits asked_call memory a)) where
      answer_fits_there : IsTrue (answer_fits asked_call (memory_at C old) a)
      answer_fits_there = subst (λ x. IsTrue (answer_fits asked_call x a)) seen fits

      pub awaits : Awaits C old a
      awaits = (running.taken, running.stands.found, rw waits_so answer_fits_there)

      abbrev next : Recorded
      next = with_answer old a

      appended : reached C next ≡ record at { left = at.left ++ a ∷ [] }
      appended = run_append C.system old.steps C.opening old.answers (a ∷ []) running.stands.real

      left_one : reached C next ≡ record at { left = a ∷ [] }
      left_one = appended ∙ ap (λ l. let q : Ran hosts C.system.State = record at { left = l ++ a ∷ [] } in q) none_left

      stands_next : IsAt C next
      stands_next = record {
        found = running.stands.found;
        run = refl;
        real = real_append C.system old.steps C.opening old.answers (a ∷ []) running.stands.real;
        left = subst (λ (q : Ran hosts C.system.State). AreLeft true (C.system.status q.state) (C.system.memory q.state) q.left) (sym left_one) (rw waits_so answer_fits_there);
      }

      abbrev progress : ℕ → Progress
      progress w = record p { run = next; written = w }

      ready_next : (w : ℕ) → w ≡ p.written + bytes_written a → are_many old.answers ≡ false → IsReady C names (progress w)
      ready_next w counted room = record {
        declared = running.declared;
        stands = stands_next;
        answered = refl;
        within = λ waiting. ap (λ (q : Ran hosts C.system.State). are_many (taken_of next.answers q.left)) appended
            ∙ ap are_many (taken_append old.answers at.left (a ∷ []) ∙ ap (taken_of old.answers) none_left ∙ taken_all old.answers) ∙ room;
        free = free_append C old.answers (a ∷ []) old.steps running.stands.real running.free;
        written = counted ∙ ap (λ n. n + bytes_written a) running.written ∙ sym (written_more old.answers a);
      }

      events_next : (calls : List (HostCall × MemoryInstance)) → at.events ≡ calls ++ event_reached C old → (reached C next).events ≡ calls ++ (asked_call, memory) ∷ []
      events_next calls e =
          ap (λ (q : Ran hosts C.system.State). q.events) appended ∙ e
          ∙ ap (λ status. calls ++ event_at status (memory_at C old)) waits_so
          ∙ ap (λ x. calls ++ (asked_call, x) ∷ []) (sym seen)

    -- the call that is waited for, over the memory
    pub waiting_event : (memory : MemoryInstance) → memory ≡ memory_at C old → event_reached C old ≡ (asked_call, memory) ∷ []
    waiting_event memory seen = ap (λ status. event_at status (memory_at C old)) waits_so ∙ ap (λ x. (asked_call, x) ∷ []) (sym seen)

-- what is asked has one of the host functions
pub asked_within : (C : Course) (names : HostNames) (p : Progress) → IsRunning C names p → (asked : Asked) → p.asked ≡ Some asked → (all : List code.HostName) → C.host ≡ slice_get (map host_name_of all)
    → asked.entry < length all
asked_within C names p running asked asks all same =
    let call = asked_call_of C.host (status_at C p.run) asked (subst (IsAskedOf C.host (status_at C p.run)) asks running.asks) in
    entry_within C.host all same asked.entry call.call.host call.there

module _ {C : Course} {embedder : Embedder} {p : Progress} {begun middle : Devices} (driven : IsDriven C embedder p begun middle)
    (asked : Asked) (asks : p.asked ≡ Some asked) (h : HostName) (there : C.host asked.entry ≡ Some h) (memory : MemoryInstance) (seen : memory ≡ memory_at C p.run) where
  abbrev called : HostCall
  called = record { host = h; args = asked.args }

  -- the run with its answer, and what was done to the devices
  pub is_prepared : (a : Answer) → IsTrue (answer_fits called memory a) → (now : Devices) → IsHosted embedder (called, memory) a middle now → are_many p.run.answers ≡ false
      → (new : Recorded) (w : ℕ) → new ≡ with_answer p.run a → w ≡ p.written + bytes_written a → IsPrepared C embedder (record p { run = new; written = w }) begun now
  is_prepared a fits now last room new w same counted =
      subst (λ x. IsPrepared C embedder (record p { run = x; written = w }) begun now) (sym same) (record {
        ready = ready_next C embedder.names p driven.running asked asks h there a memory seen fits w counted room;
        hosted =
            let hosted = driven.hosted in
            let es = events_next C embedder.names p driven.running asked asks h there a memory seen fits hosted.0 hosted.1 in
            subst (λ es. Hosted embedder es (p.run.answers ++ a ∷ []) begun now) (sym es) (hosted_last embedder hosted.0 p.run.answers (called, memory) a begun middle now hosted.2 last);
      })

  -- at most the use of the call that is waited for was begun
  pub breaks_off : (now : Devices) → IsBroken embedder (called, memory) middle now → BreaksOff embedder (event_reached C p.run) middle now
  breaks_off now broken = subst (λ es. BreaksOff embedder es middle now) (sym (waiting_event C embedder.names p driven.running asked asks h there memory seen)) broken
