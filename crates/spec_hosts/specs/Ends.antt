-- How a run over a host ends: by itself, or because of a limit.
-- This profile: docs/FORMATS.md, "The line" and "Runs".
use Rattle.std.specs.Prelude.{◌≡◌, ◌≤◌, ◌<◌, ◌-◌, ℕ, List, ◌++◌, length, map, sum, take, nat_le, Bool, true, false, ◌||◌}
use Rattle.spec_runtime.specs.wasm_form.declared.runtime.Trap.{Trap}
use Rattle.spec_runtime.specs.wasm_form.declared.runtime.Answer.{Answer}
use Rattle.spec_runtime.specs.wasm_form.declared.runtime.Answer.TheVariants as answers
use Rattle.spec_runtime.specs.spec_runs.Systems.{Status, Moving, Waits, Returned, Exited, Trapped, System, run, event, IsReal}
use Rattle.spec_runtime.specs.Memories.{MemoryInstance}
use Rattle.spec_runtime.specs.Hosts.{HostCall, hosts}
use Rattle.spec_hosts.specs.declared.ran.Ran.{Ran}
use Rattle.spec_hosts.specs.declared.ran.RunEnd.{RunEnd}
use Rattle.spec_hosts.specs.declared.ran.RunEnd.TheVariants as end
use Rattle.spec_hosts.specs.Devices.{Devices}
use Rattle.spec_hosts.specs.Hosted.{Embedder, Hosted, BreaksOff}

-- the most answers, and the most bytes that they may have written
abbrev pub most_answers : ℕ
most_answers = 1048576

abbrev pub most_written : ℕ
most_written = 268435456

abbrev pub bytes_written : Answer → ℕ
bytes_written (answers.Reply results writes) = sum (map (λ w. length w.bytes) writes)
bytes_written (answers.Exit code) = 0

-- no further host call is answered after these answers
abbrev pub are_many : List Answer → Bool
are_many given = nat_le most_answers (length given) || nat_le most_written (sum (map bytes_written given))

-- the answers that were taken, of those that are given, where these are left
abbrev pub taken_of : List Answer → List Answer → List Answer
taken_of given left = take (length given - length left) given

-- Whether a limit other than that of steps is due before the next step of a state, after these answers; `deep` is whether that step
-- would pass a limit of depth.
abbrev pub is_due : (S : System hosts) → (S.State → Bool) → S.State → List Answer → Bool
is_due S deep s given = go (S.status s)
  where
    go : Status HostCall Trap → Bool
    go Moving = deep s
    go (Waits call) = are_many given
    go _ = false

abbrev pub goes_on : Status HostCall Trap → Bool
goes_on Moving = true
goes_on (Waits call) = true
goes_on _ = false

-- A run of at most so many steps that made these, and stands at this state after these answers, ends so. The limit of steps goes first. The
-- limit of turns is one of a board: no single run ends by it.
abbrev pub EndsAs : (S : System hosts) → (S.State → Bool) → ℕ → ℕ → S.State → List Answer → RunEnd → Type 0
EndsAs S deep most steps s taken end.Return = S.status s ≡ Returned
EndsAs S deep most steps s taken (end.Exit code) = S.status s ≡ Exited code
EndsAs S deep most steps s taken (end.Trap why) = S.status s ≡ Trapped why
EndsAs S deep most steps s taken end.StepLimit = (steps ≡ most) × (goes_on (S.status s) ≡ true)
EndsAs S deep most steps s taken end.DepthLimit = (steps < most) × (S.status s ≡ Moving) × (deep s ≡ true)
EndsAs S deep most steps s taken end.HostCallLimit = (steps < most) × ((call : HostCall) × (S.status s ≡ Waits call)) × (are_many taken ≡ true)
EndsAs S deep most steps s taken end.TurnLimit = ⊥

-- the answers that so many steps of a run took
abbrev pub taken_by : (S : System hosts) → ℕ → S.State → List Answer → List Answer
taken_by S steps opening given = taken_of given (run S steps opening given).left

-- Each of the steps is a real one, before which no limit was due.
pub record Makes (S : System hosts) (deep : S.State → Bool) (opening : S.State) (most steps : ℕ) (given : List Answer) : Type 0 where
  pub few : steps ≤ most
  pub real : IsReal S steps opening given
  pub free : (k : ℕ) → k < steps → is_due S deep (run S k opening given).state (taken_by S k opening given) ≡ false

-- The run makes its steps and ends so.
pub record RunsTo (S : System hosts) (deep : S.State → Bool) (opening : S.State) (most : ℕ) (ran : Ran) : Type 0 where
  pub made : Makes S deep opening most ran.steps ran.answers
  pub ends : EndsAs S deep most ran.steps (run S ran.steps opening ran.answers).state (taken_by S ran.steps opening ran.answers) ran.end

-- The events of so many steps, but for the one that the run then waits at, are host calls with these answers, which do this to the devices.
abbrev pub AreHosted : (S : System hosts) → Embedder → S.State → ℕ → List Answer → Devices → Devices → Type 0
AreHosted S embedder opening steps given old new =
    (calls : List (HostCall × MemoryInstance)) × ((run S steps opening given).events ≡ calls ++ event S (run S steps opening given).state) × Hosted embedder calls given old new

-- The run from an opening state made its steps and ended so, and its host calls did this to the devices.
pub record IsRunOf (S : System hosts) (deep : S.State → Bool) (embedder : Embedder) (opening : S.State) (most : ℕ) (ran : Ran) (old new : Devices) : Type 0 where
  pub runs : RunsTo S deep opening most ran
  pub hosted : AreHosted S embedder opening ran.steps ran.answers old new

-- Some steps of a run were made, and its host calls did to the devices what these are in the middle. Then at most the one use was begun
-- that the host call wants which it waits for, if it waits.
pub record IsCutShort (S : System hosts) (deep : S.State → Bool) (embedder : Embedder) (opening : S.State) (most : ℕ) (old new : Devices) : Type 0 where
  pub steps : ℕ
  pub given : List Answer
  pub middle : Devices
  pub made : Makes S deep opening most steps given
  pub hosted : AreHosted S embedder opening steps given old middle
  pub broken : BreaksOff embedder (event S (run S steps opening given).state) middle new
