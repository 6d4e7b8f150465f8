-- The call that a run waits for, and what came of it.
use Rattle.std.proofs.Common.{◌≡◌, ℕ, ◌<◌, true, false, true≢false, not, ◌&&◌, Bool, List, length, map, slice_get, Option, Some, Result, IfOk, IsTrue, IfSome, refl, sym, ap, ◌∙◌, subst}
use Rattle.std.proofs.lemmas.Option.{same_Some}
use Rattle.spec_hosts.specs.wasm_form.declared.memory.Memory.{Memory}
use Rattle.spec_hosts.specs.wasm_form.declared.runtime.Answer.{Answer}
use Rattle.spec_hosts.specs.wasm_form.declared.runtime.Asked.{Asked}
use Rattle.spec_hosts.specs.wasm_form.declared.runtime.Trap.{Trap}
use Rattle.spec_hosts.specs.spec_runs.Systems.{Status, Moving, Waits, Returned, Exited, Trapped}
use Rattle.spec_hosts.specs.spec_runtime.Memories.{MemoryInstance}
use Rattle.spec_hosts.specs.spec_runtime.Names.{HostName, has_integers}
use Rattle.spec_hosts.specs.spec_runtime.Hosts.{HostCall, answer_fits, numbers_fit}
use Rattle.spec_hosts.specs.spec_runtime.Recorded.{Recorded, waits}
use Rattle.spec_hosts.specs.spec_runtime.Courses.{Course, status_at, memory_at, is_waiting}
use Rattle.spec_hosts.specs.Devices.{Devices}
use Rattle.spec_hosts.specs.Hosted.{Embedder, CallComesTo}
use Rattle.spec_loading.specs.spec_linking.LinkedSets.{LinkedSet, set_hosts, hosts_of}
use Rattle.dyl_link.specs.host_table.Names.{host_name_of}
use Rattle.dyl_link.specs.host_table.declared.host.HostName as code
use Rattle.dyl_store.specs.Stores.{set_course}
use Rattle.wasm_machine.specs.declared.event.Event.{Event}
use Rattle.wasm_machine.specs.declared.event.Event.TheVariants as event
use Rattle.wasm_machine.specs.Steps.{TellsStatus, ArgumentsFit}
use Rattle.host_calls.specs.Embedders.{call_of, Asks}
use Rattle.run_loaded.proofs.Hosts.{host_of_entry, entry_within}
use Rattle.slice_exec.specs.Playing.{CallGives}

-- ---- what is told of a run that waits

waits_by : (answered : Bool) (status : Status HostCall Trap) → (not answered && waits status) ≡ true → (answered ≡ false) × (waits status ≡ true)
waits_by false status waiting = (refl, waiting)
waits_by true status waiting = absurd (true≢false (sym waiting))

pub told_waits : (host : ℕ → Option HostName) (e : Event) (status : Status HostCall Trap) → TellsStatus host e status → waits status ≡ true → (asked : Asked) × (e ≡ event.Waits asked)
told_waits host (event.Waits asked) (Waits call) tells waiting = (asked, refl)
told_waits host event.Moved (Waits call) tells waiting = absurd tells
told_waits host event.Returned (Waits call) tells waiting = absurd tells
told_waits host (event.Trapped why) (Waits call) tells waiting = absurd tells
told_waits host (event.Exited code) (Waits call) tells waiting = absurd tells
told_waits host event.Deep (Waits call) tells waiting = absurd tells
told_waits host (event.Loader call first second) (Waits other) tells waiting = absurd tells
told_waits host (event.Marked tag) (Waits call) tells waiting = absurd tells
told_waits host e Moving tells waiting = absurd (true≢false (sym waiting))
told_waits host e Returned tells waiting = absurd (true≢false (sym waiting))
told_waits host e (Exited code) tells waiting = absurd (true≢false (sym waiting))
told_waits host e (Trapped why) tells waiting = absurd (true≢false (sym waiting))

pub must_wait : (C : Course) (x : Recorded) (e : Event) → TellsStatus C.host e (status_at C x) → is_waiting C x ≡ true → (asked : Asked) × (e ≡ event.Waits asked)
must_wait C x e tells waiting = told_waits C.host e (status_at C x) tells (waits_by x.answered (status_at C x) waiting).1

pub unanswered : (C : Course) (x : Recorded) → is_waiting C x ≡ true → x.answered ≡ false
unanswered C x waiting = (waits_by x.answered (status_at C x) waiting).0

-- ---- the host function of what is asked

-- what is asked is the call that is waited for
pub record IsCall (host : ℕ → Option HostName) (status : Status HostCall Trap) (asked : Asked) : Type 0 where
  pub call : HostCall
  pub waits : status ≡ Waits call
  pub there : host asked.entry ≡ Some call.host
  pub args : asked.args ≡ call.args

pub call_told : (host : ℕ → Option HostName) (asked : Asked) (status : Status HostCall Trap) → TellsStatus host (event.Waits asked) status → IsCall host status asked
call_told host asked (Waits call) tells = record { call = call; waits = refl; there = tells.0; args = tells.1 }
call_told host asked Moving tells = absurd tells
call_told host asked Returned tells = absurd tells
call_told host asked (Exited code) tells = absurd tells
call_told host asked (Trapped why) tells = absurd tells

module _ (L : LinkedSet) (all : List code.HostName) (kept : map host_name_of all ≡ hosts_of L) where
  -- the host functions of a set, as the code keeps them
  pub hosts_kept : set_hosts L ≡ slice_get (map host_name_of all)
  hosts_kept = let read : List HostName → ℕ → Option HostName = λ hs entry. slice_get hs entry in ap read (sym kept)

  module _ (asked : Asked) (x : Recorded) (tells : TellsStatus (set_hosts L) (event.Waits asked) (status_at (set_course L) x)) where
    abbrev C : Course
    C = set_course L

    call : IsCall (set_hosts L) (status_at C x) asked
    call = call_told (set_hosts L) asked (status_at C x) tells

    pub asked_within : asked.entry < length all
    asked_within = entry_within (set_hosts L) all hosts_kept asked.entry call.call.host call.there

    module _ (h : code.HostName) (at : slice_get all asked.entry ≡ Some h) where
      pub there : set_hosts L asked.entry ≡ Some (host_name_of h)
      there = host_of_entry (set_hosts L) all hosts_kept asked.entry h at

      same_call : call.call ≡ call_of h asked
      same_call = λ i. record { host = same_Some call.call.host (host_name_of h) (sym call.there ∙ there) i; args = sym call.args i }

      waits_so : status_at C x ≡ Waits (call_of h asked)
      waits_so = call.waits ∙ ap Waits same_call

      -- the arguments fit, where the host function has integers
      pub arguments_fit : ArgumentsFit (set_hosts L) (event.Waits asked) → IsTrue (has_integers (host_name_of h).ty) → IsTrue (numbers_fit (host_name_of h).ty.params asked.args)
      arguments_fit fits integers =
          subst (λ (o : Option HostName). IfSome o (λ h. IsTrue (has_integers h.ty) → IsTrue (numbers_fit h.ty.params asked.args))) there fits integers

      -- what came of it
      pub call_gives : (embedder : Embedder) (memory : MemoryInstance) (result : Result Answer Memory) (old new : Devices) → memory ≡ memory_at C x → Asks embedder h asked memory result old new
          → IfOk result (λ a. IsTrue (answer_fits (call_of h asked) memory a)) → CallGives embedder C x result old new
      call_gives embedder memory result old new seen asks fits =
          (call_of h asked, waits_so, subst (λ m. CallComesTo embedder (call_of h asked, m) result old new) seen asks, subst (λ m. IfOk result (λ a. answer_fits (call_of h asked) m a ≡ true)) seen fits)
