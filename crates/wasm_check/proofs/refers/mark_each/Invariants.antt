use Rattle.std.proofs.Common.{take}
use Rattle.std.specs.List.{list_any}
use Rattle.wasm_check.specs.Marks.{Adds}
use Rattle.wasm_check.proofs.refers.mark_each.Given as goal

abbrev pub invariant-loop-x : goal.invariant-loop-x
invariant-loop-x g l = Adds (λ k. list_any (g.T.Referring.refers k) (take l.x-index l.each)) l.fn.marks l.marks
