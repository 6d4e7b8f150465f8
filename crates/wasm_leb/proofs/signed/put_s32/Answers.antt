use Rattle.std.proofs.Common.{rules, ◌≡◌, ◌∙◌, FitsSigned, w32, w64}
use Rattle.std.proofs.lemmas.Int.{to_z-of_z}
use Rattle.std.proofs.lemmas.Result.{on_ok_weaker}
use Rattle.spec_binary.proofs.SignedSpelling.{signed_32}
use Rattle.wasm_leb.proofs.signed.put_s32.Goals as goal

pub returns-clause-ok : goal.returns-clause-ok
returns-clause-ok c =
    let value : c.from.result ≡ c.args.v = c.from.ensures ∙ to_z-of_z w32 c.args.v c.ranges.v in
    let fits : FitsSigned w64 c.from.result = search rules in
    let written = rw (to_z-of_z w64 c.from.result fits, value) at c.put_signed.ensures.ok in
    on_ok_weaker c.put_signed.result (λ all. all 32 (signed_32 c.args.v c.ranges.v)) written
