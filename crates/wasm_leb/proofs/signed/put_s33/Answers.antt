use Rattle.std.proofs.Common.{w64}
use Rattle.std.proofs.lemmas.Int.{to_z-of_z}
use Rattle.std.proofs.lemmas.Result.{on_ok_weaker}
use Rattle.wasm_leb.proofs.signed.put_s33.Goals as goal

pub returns-clause-ok : goal.returns-clause-ok
returns-clause-ok c =
    let written = rw (to_z-of_z w64 c.args.v c.ranges.v) at c.put_signed.ensures.ok in
    on_ok_weaker c.put_signed.result (λ all. all 33 (record { least = c.requires.least; below = c.requires.below })) written
