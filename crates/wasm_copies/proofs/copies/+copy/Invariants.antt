use Rattle.std.proofs.Common.{◌≡◌, take}
use Rattle.wasm_copies.proofs.copies.+copy.Given as goal

abbrev pub invariant-copied_list-loop-i : goal.invariant-copied_list-loop-i
invariant-copied_list-loop-i l = l.out.items ≡ take l.i-index l.is
