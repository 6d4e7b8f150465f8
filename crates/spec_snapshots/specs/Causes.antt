-- Which state of a start-up is the first one of which something is to be said, and what: the snapshot is made of it, or why there is none.
-- This profile: docs/FORMATS.md, "The snapshot".
use Rattle.std.specs.Prelude.{◌≡◌, ◌<◌, ℕ, [], Bool, nat_eq, Option, Some, None, if◌then◌else◌}
use Rattle.spec_loading.specs.wasm_form.declared.runtime.Trap.{Trap}
use Rattle.spec_loading.specs.spec_runs.Systems.{Status, Moving, Waits, Returned, Exited, Trapped}
use Rattle.spec_loading.specs.spec_runtime.Hosts.{HostCall}
use Rattle.spec_loading.specs.spec_linking.LinkedSets.{LinkedSet}
use Rattle.spec_loading.specs.Loading.{loaded_too_deep}
use Rattle.spec_loading.specs.LoadedSet.{SetState, set_loading, set_run}
pub use Rattle.spec_keeping.specs.Started.{calls_entry, is_startup, goes_on, is_started}

-- what is to be said of a state
pub data SnapCause : Type 0 where
  -- the snapshot is made of it
  Takes : SnapCause
  TrapsSo : Trap → SnapCause
  -- it waits for the host
  Calls : SnapCause
  -- all steps are made
  StepsEnd : SnapCause
  -- the next step would pass a limit of depth
  IsDeep : SnapCause

-- of a state that is not started, by whether all steps are made, whether the next one is too deep, and how it stands
abbrev pub cause_by : Bool → Bool → Status HostCall Trap → Option SnapCause
cause_by used deep Moving = if used then Some StepsEnd else if deep then Some IsDeep else None
cause_by used deep (Waits call) = Some Calls
cause_by used deep (Trapped why) = Some (TrapsSo why)
cause_by used deep Returned = None
cause_by used deep (Exited code) = None

-- what is to be said of a state after n steps, where there may be so many
abbrev pub cause_at : LinkedSet → ℕ → ℕ → SetState → Option SnapCause
cause_at L most n s = if is_started s then Some Takes else cause_by (nat_eq n most) (loaded_too_deep (set_loading L) s) s.run.status

-- the state after so many steps without answers
abbrev pub state_after : LinkedSet → ℕ → SetState
state_after L n = (set_run L [] n).state

-- The state after n steps is the first one of which something is to be said, and this is it.
pub record IsFirst (L : LinkedSet) (most : ℕ) (n : ℕ) (cause : SnapCause) : Type 0 where
  pub before : (k : ℕ) → k < n → cause_at L most k (state_after L k) ≡ None
  pub here : cause_at L most n (state_after L n) ≡ Some cause
