-- The course of a run: what is run, a module or a linked set, as a step system with the state from which its steps begin.
-- This profile: docs/FORMATS.md, "Runs".
use Rattle.std.specs.Prelude.{ℕ, suc, List, [], ◌∷◌, ◌++◌, Bool, true, false, Option}
use Rattle.spec_binary.specs.wasm_form.declared.runtime.Trap.{Trap}
use Rattle.spec_binary.specs.wasm_form.declared.runtime.Answer.{Answer}
use Rattle.spec_runs.specs.Systems.{Status, System, Ran, run}
use Rattle.spec_runtime.specs.Memories.{MemoryInstance}
use Rattle.spec_runtime.specs.Names.{HostName}
use Rattle.spec_runtime.specs.Hosts.{HostCall, hosts}
use Rattle.spec_runtime.specs.Recorded.{Recorded, Stands, waits_unanswered}

-- The steps of a run, whether the next one would pass a limit of depth, the state from which it begins, and the host functions by their
-- entries.
pub record Course : Type 1 where
  pub system : System hosts
  pub deep : system.State → Bool
  pub opening : system.State
  pub host : ℕ → Option HostName

-- ---- what is recorded of a run

-- no step was made, and nothing was answered
abbrev pub no_steps : Recorded
no_steps = record { steps = 0; answers = []; answered = false; lost = false }

-- one step more, which has taken the answer that was recorded, if any
abbrev pub with_step : Recorded → Recorded
with_step x = record x { steps = suc x.steps; answered = false }

-- the answer is recorded, for the next step to take
abbrev pub with_answer : Recorded → Answer → Recorded
with_answer x a = record x { answers = x.answers ++ a ∷ []; answered = true }

-- memory was wanting
abbrev pub as_lost : Recorded → Recorded
as_lost x = record x { lost = true }

-- ---- where a run stands

-- where so many of the steps over these answers lead
abbrev pub after : (C : Course) → ℕ → List Answer → Ran hosts C.system.State
after C n given = run C.system n C.opening given

abbrev pub reached : (C : Course) → Recorded → Ran hosts C.system.State
reached C x = after C x.steps x.answers

abbrev pub state_at : (C : Course) → Recorded → C.system.State
state_at C x = (reached C x).state

abbrev pub status_at : (C : Course) → Recorded → Status HostCall Trap
status_at C x = C.system.status (state_at C x)

abbrev pub memory_at : (C : Course) → Recorded → MemoryInstance
memory_at C x = C.system.memory (state_at C x)

-- it stands there: memory wasn't wanting, and each of its steps is a real one
abbrev pub IsAt : Course → Recorded → Type 0
IsAt C x = Stands C.system C.opening x (reached C x)

-- it waits for an answer that isn't recorded
abbrev pub is_waiting : Course → Recorded → Bool
is_waiting C x = waits_unanswered x (status_at C x)
