use Rattle.std.proofs.Common.{rules, ◌≡◌, pos, negsuc, ◌-ℤ◌, arith, to_z, w64}
use Rattle.std.proofs.lemmas.Int.{ints}
use Rattle.spec_binary.proofs.SignedSpelling.{last_spells}
use Rattle.wasm_leb.proofs.signed.last_value.Goals as goal
use Rattle.wasm_leb.proofs.signed.last_value.Goals.{then-b-lt64, else-b-lt64}

pub returns-then-fits-clause-found : goal.returns-then-fits-clause-found
returns-then-fits-clause-found c =
    let range = c.if-fits.ensures.0 (search rules) in
    elim c.if-b-lt64.branch [
      | then-b-lt64 w ↦
          let value : to_z w64 c.if-b-lt64.value-bits ≡ pos c.args.b = omega (arith, ints, w.value-is, w.from-value.ensures) in
          last_spells c.args.bits _ (pos 0) c.args.b (omega arith) (omega (arith, ints)) (omega (arith, ints)) (omega (arith, ints)) range
      | else-b-lt64 w ↦
          let value : to_z w64 c.if-b-lt64.value-bits ≡ pos c.args.b -ℤ pos 128 = omega (arith, ints, w.value-is, w.from.ensures) in
          last_spells c.args.bits _ (negsuc 0) c.args.b (omega arith) (omega (arith, ints)) (omega (arith, ints)) (omega (arith, ints)) range
    ]
