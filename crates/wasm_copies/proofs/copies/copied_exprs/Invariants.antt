use Rattle.std.proofs.Common.{◌≡◌, take}
use Rattle.wasm_copies.proofs.copies.copied_exprs.Given as goal

abbrev pub invariant-loop-e : goal.invariant-loop-e
invariant-loop-e l = l.list.items ≡ take l.e-index l.es
