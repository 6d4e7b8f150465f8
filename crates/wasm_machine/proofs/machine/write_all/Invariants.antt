use Rattle.std.proofs.Common.{◌≡◌, drop}
use Rattle.std.specs.Prelude.{IsTrue}
use Rattle.spec_safety.specs.spec_runtime.Hosts.{writes_fit, all_written}
use Rattle.wasm_machine.proofs.machine.write_all.Given as goal

-- the writes that are left fit, and lead to where all of them lead
abbrev pub invariant-loop-write : goal.invariant-loop-write
invariant-loop-write g l = record {
  fit : IsTrue (writes_fit (drop l.write-index l.writes) (g.V.View.seen l.view).memory);
  leads : all_written (drop l.write-index l.writes) (g.V.View.seen l.view).memory ≡ all_written l.writes (g.V.View.seen l.fn.view).memory;
  units : (g.V.View.seen l.view).units ≡ (g.V.View.seen l.fn.view).units;
  fixed : (g.V.View.seen l.view).fixed ≡ (g.V.View.seen l.fn.view).fixed;
}
