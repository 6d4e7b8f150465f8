use Rattle.std.proofs.Common.{◌≡◌, All, take}
use Rattle.wasm_encode.proofs.section.count_ranked.Given as goal

abbrev pub invariant-loop-i : goal.invariant-loop-i
invariant-loop-i l = All (λ c. c.rank ≡ l.rank) (take l.i l.customs)
