-- One turn of a program: it makes steps until a cause to stop is due.
-- This profile: docs/FORMATS.md, "Turns".
use Rattle.std.specs.Prelude.{ℕ, zero, suc, List, [], ◌∷◌, Bool, false, nat_eq, Option, Some, None, unwrap_or, if◌then◌else◌}
use Rattle.spec_hosts.specs.wasm_form.declared.runtime.Trap.{Trap}
use Rattle.spec_hosts.specs.wasm_form.declared.runtime.Answer.{Answer}
use Rattle.spec_hosts.specs.spec_runs.Systems.{Status, Moving, Waits, Returned, Exited, Trapped, Ran}
use Rattle.spec_hosts.specs.spec_runtime.Memories.{MemoryInstance}
use Rattle.spec_hosts.specs.spec_runtime.Hosts.{HostCall, hosts, answer_fits}
use Rattle.spec_hosts.specs.spec_runtime.Courses.{Course, after}
use Rattle.spec_boards.specs.declared.turn.Stop.{Stop}
use Rattle.spec_boards.specs.declared.turn.Stop.TheVariants as stop

-- how far a program has come: its steps, and the answers that are recorded, in order
pub record Place : Type 0 where
  pub steps : ℕ
  pub given : List Answer

-- where it stands
abbrev pub reached : (C : Course) → Place → Ran hosts C.system.State
reached C p = after C p.steps p.given

-- the next of the answers that are left fits the call that is waited for
abbrev pub takes : HostCall → MemoryInstance → List Answer → Bool
takes call memory [] = false
takes call memory (a ∷ left) = answer_fits call memory a

-- The cause to stop before the next step, if one is due: by whether the program has made as many steps as it may, whether the turn has, whether
-- the next step is too deep, and the answers that are left. An earlier cause goes first.
abbrev pub stop_by : Bool → Bool → Bool → List Answer → MemoryInstance → Status HostCall Trap → Option Stop
stop_by limited spent deep left memory Moving = if limited then Some stop.StepLimit else if spent then Some stop.Spent else if deep then Some stop.Deep else None
stop_by limited spent deep left memory (Waits call) =
    if limited then Some stop.StepLimit else if takes call memory left then (if spent then Some stop.Spent else None) else Some stop.Waits
stop_by limited spent deep left memory Returned = Some stop.Ended
stop_by limited spent deep left memory (Exited code) = Some stop.Ended
stop_by limited spent deep left memory (Trapped why) = Some stop.Ended

-- the same of a program of at most so many steps, where a turn may make so many more
abbrev pub stop_at : Course → ℕ → ℕ → Place → Option Stop
stop_at C most slice p =
    let r = reached C p in stop_by (nat_eq p.steps most) (nat_eq slice 0) (C.deep r.state) r.left (C.system.memory r.state) (C.system.status r.state)

abbrev pub one_step : Place → Place
one_step p = record p { steps = suc p.steps }

-- Where a turn leads, how many steps it made, and why it stopped.
pub record Turned : Type 0 where
  pub place : Place
  pub made : ℕ
  pub why : Stop

-- it stops here, or else goes on to this
abbrev pub on_stop : Place → ℕ → Turned → Option Stop → Turned
on_stop p made more (Some why) = record { place = p; made = made; why = why }
on_stop p made more None = more

-- a turn of at most so many further steps that has made some; there is always a cause where no step is left to it
abbrev pub turned : Course → ℕ → ℕ → Place → ℕ → Turned
turned C most zero p made = record { place = p; made = made; why = unwrap_or (stop_at C most 0 p) stop.Spent }
turned C most (suc slice) p made = on_stop p made (turned C most slice (one_step p) (suc made)) (stop_at C most (suc slice) p)

-- The turn of a program of at most so many steps from where it has come, of at most so many steps itself.
abbrev pub turn_of : Course → ℕ → ℕ → Place → Turned
turn_of C most slice p = turned C most slice p 0
