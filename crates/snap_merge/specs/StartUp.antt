-- The start-up of a linked set, as it is recorded, and what is to be said of it.
-- Serves the contracts of this crate, which follow Causes of `spec_snapshots`.
use Rattle.std.specs.Prelude.{◌≡◌, ◌<◌, ◌≤◌, ℕ, [], Bool, true, false, Some, None}
use Rattle.spec_loading.specs.spec_runs.Systems.{Moving}
use Rattle.spec_loading.specs.spec_linking.LinkedSets.{LinkedSet}
use Rattle.spec_loading.specs.Loading.{loaded_too_deep}
use Rattle.spec_loading.specs.LoadedSet.{set_loading}
use Rattle.spec_loading.specs.SoundSets.{HoldBytes}
use Rattle.spec_snapshots.specs.declared.fault.SnapFault.{SnapFault}
use Rattle.spec_snapshots.specs.declared.fault.SnapFault.TheVariants as faults
use Rattle.dyl_store.specs.Stores.{StoreRun}
use Rattle.merge_module.specs.Laws.{IsMergeable}
use Rattle.spec_snapshots.specs.Causes.{Takes, TrapsSo, Calls, StepsEnd, IsDeep, is_started, cause_at, state_after}

-- it has taken no answer, and made at most so many steps
pub record IsStarting (most : ℕ) (v : StoreRun) : Type 0 where
  pub found : v.run.lost ≡ false
  pub none : v.run.answers ≡ []
  pub unasked : v.run.answered ≡ false
  pub few : v.run.steps ≤ most

-- what laws of start-ups ask of a set
abbrev pub IsAble : LinkedSet → Type 0
IsAble L = IsMergeable L × HoldBytes L

-- nothing is to be said of the states before
abbrev pub NoneBefore : LinkedSet → ℕ → ℕ → Type 0
NoneBefore L most n = (k : ℕ) → k < n → cause_at L most k (state_after L k) ≡ None

-- the entry isn't called yet
abbrev pub IsUnstarted : LinkedSet → ℕ → Type 0
IsUnstarted L n = is_started (state_after L n) ≡ false

-- the run goes on by itself
abbrev pub IsMoving : LinkedSet → ℕ → Type 0
IsMoving L n = (state_after L n).run.status ≡ Moving

-- the next step may be made
abbrev pub MayStep : LinkedSet → ℕ → ℕ → Type 0
MayStep L most n =
    IsMoving L n × (loaded_too_deep (set_loading L) (state_after L n) ≡ false) × (cause_at L most n (state_after L n) ≡ None)

-- this is to be said of the state after n steps; want of memory may come anywhere
abbrev pub Says : LinkedSet → ℕ → ℕ → SnapFault → Type 0
Says L most n faults.HostCall = cause_at L most n (state_after L n) ≡ Some Calls
Says L most n (faults.Trap why) = cause_at L most n (state_after L n) ≡ Some (TrapsSo why)
Says L most n faults.Steps = cause_at L most n (state_after L n) ≡ Some StepsEnd
Says L most n faults.Depth = cause_at L most n (state_after L n) ≡ Some IsDeep
Says L most n (faults.SectionSize id) = ⊥
Says L most n faults.Memory = Unit {0}

-- there is no snapshot for this reason
abbrev pub Refuses : LinkedSet → ℕ → SnapFault → Type 0
Refuses L most f = (n : ℕ) × NoneBefore L most n × Says L most n f

-- one of its states was come to, whose entry was called or isn't yet
abbrev pub Comes : LinkedSet → ℕ → ℕ → Bool → Type 0
Comes L most n true = Unit {0}
Comes L most n false = cause_at L most n (state_after L n) ≡ Some Takes
