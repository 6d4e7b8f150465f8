-- What checking a trace answers, and what it is to make one.
-- Serves the contracts of this crate, which follow Traces of `spec_traces`.
use Rattle.std.specs.Prelude.{◌≡◌, ◌≤◌, ◌<◌, ℕ, Result, Ok, Err}
use Rattle.spec_traces.specs.spec_hosts.spec_runtime.Courses.{Course, no_steps}
use Rattle.spec_traces.specs.spec_hosts.declared.ran.Ran.{Ran}
use Rattle.spec_traces.specs.spec_hosts.Ends.{RunsTo}
use Rattle.spec_traces.specs.spec_execution.OneModule.{module_opening}
use Rattle.spec_traces.specs.spec_execution.declared.fault.SingleFault.{SingleFault}
use Rattle.spec_traces.specs.spec_execution.declared.fault.SingleFault.TheVariants as single
use Rattle.spec_traces.specs.declared.trace.Trace.{Trace}
use Rattle.spec_traces.specs.declared.trace.TraceFault.{TraceFault}
use Rattle.spec_traces.specs.declared.trace.TraceFault.TheVariants as fault
use Rattle.spec_traces.specs.Traces.{Traces, IsAgreeing, IsTraceOf}
use Rattle.spec_loading.specs.spec_safety.SoundModules.{HoldsNumbers}
use Rattle.run_loaded.specs.declared.loaded.Loaded.{Loaded}
use Rattle.run_loaded.specs.Courses.{Origin, OfModule, OfSet, course_of, TakesAll}
use Rattle.run_loaded.specs.Programs.{recorded_of, IsOf}
use Rattle.replay_check.specs.declared.program.Program.{Program}
use Rattle.replay_check.specs.declared.program.Program.TheVariants.{Set, One}

-- the run that a program has, where it opens
abbrev pub IsOpened : Program → Origin → Type 0
IsOpened (Set k) (OfSet L) = k.now ≡ L
IsOpened (Set k) (OfModule m opening) = ⊥
IsOpened (One wasm names) (OfSet L) = ⊥
IsOpened (One wasm names) (OfModule m opening) = (m ≡ wasm.now) × (module_opening wasm.now names.now ≡ Ok opening)

-- why a module isn't opened
abbrev pub IsRefused : Program → SingleFault → Type 0
IsRefused (Set k) why = ⊥
IsRefused (One wasm names) single.Memory = ⊥
IsRefused (One wasm names) why = module_opening wasm.now names.now ≡ Err why

-- ---- loading a program

-- the numbers of its module are in range
abbrev pub HoldNumbers : Program → Type 0
HoldNumbers (Set k) = Unit {0}
HoldNumbers (One wasm names) = HoldsNumbers wasm.now

-- memory was wanting, or this is why it isn't opened
abbrev pub IsUnloaded : Program → SingleFault → Type 0
IsUnloaded p single.Memory = Unit {0}
IsUnloaded p why = IsRefused p why

-- The program opens and is loaded, as the run that it has, and has made no step; or it isn't, for this cause.
abbrev pub Loads : Program → Result Loaded SingleFault → Type 0
Loads p (Ok l) = ((o : Origin) × IsOpened p o) × ((o : Origin) → IsOpened p o → IsOf l o) × (recorded_of l ≡ no_steps)
Loads p (Err why) = IsUnloaded p why

-- ---- checking a trace

-- The answer of checking a trace of at most so many steps. Memory is wanting only where it has no more of them.
abbrev pub Checks : Program → Trace → ℕ → Result (Unit {0}) TraceFault → Type 0
Checks p t most (Ok done) = (t.steps ≤ most) × (o : Origin) × IsOpened p o × Traces (course_of o) t
Checks p t most (Err (fault.Line line)) = ⊥
Checks p t most (Err fault.Steps) = most < t.steps
Checks p t most (Err (fault.Single why)) = (t.steps ≤ most) × IsRefused p why
Checks p t most (Err (fault.Differs call)) =
    (t.steps ≤ most) × (o : Origin) × IsOpened p o × IsAgreeing (course_of o) t call × (Traces (course_of o) t → ⊥)
Checks p t most (Err fault.Memory) = t.steps ≤ most

-- ---- making a trace

-- The run was told so, and took all its answers.
pub record HasRun (C : Course) (r : Ran) : Type 0 where
  pub most : ℕ
  pub runs : RunsTo C.system C.deep C.opening most r
  pub taken : TakesAll C r

-- the program opens and was run so
abbrev pub WasRun : Program → Ran → Type 0
WasRun p r = (o : Origin) × IsOpened p o × HasRun (course_of o) r

-- a trace is that of the run that the program has, where it was told so
abbrev pub IsTraced : Program → Ran → Trace → Type 0
IsTraced p r t = (o : Origin) → IsOpened p o → HasRun (course_of o) r → IsTraceOf (course_of o) r t
