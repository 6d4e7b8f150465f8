use Rattle.std.proofs.Common.{◌≡◌, replicate, false}
use Rattle.wasm_check.proofs.refers.no_marks.Given as goal

abbrev pub invariant-loop : goal.invariant-loop
invariant-loop l = l.marks.items ≡ replicate l.counter false
