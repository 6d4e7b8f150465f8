use Rattle.std.proofs.Common.{◌≡◌, ◌++◌, drop, map}
use Rattle.dyl_store.specs.Opening.{global_with}
use Rattle.dyl_store.proofs.constants.put_globals.Given as goal

abbrev pub invariant-loop-g : goal.invariant-loop-g
invariant-loop-g l = l.to.items ++ map (global_with l.names) (drop l.g-index l.globals) ≡ l.fn.to.items ++ map (global_with l.names) l.globals
