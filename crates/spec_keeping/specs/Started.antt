-- Whether the start-up of a loaded run is done: its entry was called.
-- This profile: docs/FORMATS.md, "The snapshot".
use Rattle.std.specs.Prelude.{◌&&◌, Bool, true, false, not}
use Rattle.std.specs.List.{list_any}
use Rattle.spec_loading.specs.wasm_form.declared.runtime.Trap.{Trap}
use Rattle.spec_loading.specs.spec_runs.Systems.{Status, Moving, Waits, Returned, Exited, Trapped}
use Rattle.spec_loading.specs.spec_runtime.Hosts.{HostCall}
use Rattle.spec_loading.specs.spec_execution.Runs.{Frame}
use Rattle.spec_loading.specs.spec_execution.Runs as frames
use Rattle.spec_loading.specs.declared.task.After.{After}
use Rattle.spec_loading.specs.declared.task.After.TheVariants.{CallEntry, GiveHandle, GiveAndPromote}
use Rattle.spec_loading.specs.Phases.{LoaderFrame}
use Rattle.spec_loading.specs.Loading.{LoadedState}

abbrev pub calls_entry : After → Bool
calls_entry CallEntry = true
calls_entry (GiveHandle m) = false
calls_entry (GiveAndPromote m) = false

-- the frame of the loader that calls the entry when its tasks are done
abbrev pub is_startup : Frame LoaderFrame → Bool
is_startup (frames.Active a) = false
is_startup (frames.Marked frame) = calls_entry frame.after

abbrev pub goes_on : Status HostCall Trap → Bool
goes_on Moving = true
goes_on (Waits call) = true
goes_on Returned = false
goes_on (Exited code) = false
goes_on (Trapped why) = false

-- the entry was called, and the run goes on
abbrev pub is_started : {Units : Type 0} → LoadedState Units → Bool
is_started s = goes_on s.run.status && not (list_any is_startup s.run.stack)
