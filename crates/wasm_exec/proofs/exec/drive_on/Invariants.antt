-- The run as far as it has come, and what was done to the devices since it began.
use Rattle.std.proofs.Common.{◌≤◌, ◌-◌}
use Rattle.spec_hosts.specs.Devices.{devices}
use Rattle.host_calls.specs.Embedders.{embedder}
use Rattle.run_loaded.specs.Programs.{recorded_of}
use Rattle.wasm_exec.specs.Driving.{LeadsTo}
use Rattle.wasm_exec.proofs.exec.drive_on.Given as goal

abbrev pub invariant-loop-driver : goal.invariant-loop-driver
invariant-loop-driver g l = record {
  few : (recorded_of l.driver.program).steps ≤ l.most;
  leads : LeadsTo (embedder l.hosts) l.fn.driver l.driver
      (devices (g.I.Source.seen l.fn.input) (g.O.Sink.seen l.fn.output) (g.E.Sink.seen l.fn.errors) (g.A.Ambient.seen l.fn.ambient))
      (devices (g.I.Source.seen l.input) (g.O.Sink.seen l.output) (g.E.Sink.seen l.errors) (g.A.Ambient.seen l.ambient));
}

abbrev pub decreases-loop-driver : goal.decreases-loop-driver
decreases-loop-driver g l = l.most - (recorded_of l.driver.program).steps
