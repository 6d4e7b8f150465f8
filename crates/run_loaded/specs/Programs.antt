-- A loaded program, as contracts see it.
-- Serves the contracts of this crate, which follow Courses of `run_loaded`.
use Rattle.std.specs.Prelude.{◌≡◌, Ok}
use Rattle.spec_hosts.specs.spec_runtime.Recorded.{Recorded}
use Rattle.wasm_single.specs.Starts.{opened}
use Rattle.run_loaded.specs.declared.loaded.Loaded.{Loaded}
use Rattle.run_loaded.specs.declared.loaded.Loaded.TheVariants as loaded
use Rattle.run_loaded.specs.Courses.{Origin, OfModule, OfSet}

-- its steps and its answers
abbrev pub recorded_of : Loaded → Recorded
recorded_of (loaded.Module s) = s.run
recorded_of (loaded.Set s) = s.run

-- it is a run of this
abbrev pub IsOf : Loaded → Origin → Type 0
IsOf (loaded.Module s) (OfModule m opening) = (s.wasm ≡ m) × (opened m ≡ Ok opening)
IsOf (loaded.Module s) (OfSet L) = ⊥
IsOf (loaded.Set s) (OfModule m opening) = ⊥
IsOf (loaded.Set s) (OfSet L) = s.linked ≡ L

-- it stays a run of what it was one of
abbrev pub Keeps : Loaded → Loaded → Type 0
Keeps old new = (o : Origin) → IsOf old o → IsOf new o
