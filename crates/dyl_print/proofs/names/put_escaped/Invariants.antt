use Rattle.std.proofs.Common.{◌≡◌, ◌++◌, drop}
use Rattle.dyl_print.specs.Printed.{escaped}
use Rattle.dyl_print.proofs.names.put_escaped.Given as goal

abbrev pub invariant-loop-b : goal.invariant-loop-b
invariant-loop-b l = l.to.items ++ escaped (drop l.b-index l.b-items) ≡ l.fn.to.items ++ escaped l.text
