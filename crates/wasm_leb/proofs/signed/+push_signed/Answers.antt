use Rattle.std.proofs.Common.{rules, ◌-◌, inl, inr, arith, FitsSigned, w64}
use Rattle.std.proofs.lemmas.Int.{ints, to_z-of_z}
use Rattle.std.proofs.lemmas.Result.{on_ok_weaker, on_err_weaker}
use Rattle.wasm_leb.proofs.Places.{kept_before}
use Rattle.spec_binary.proofs.SignedSpelling.{shortest_last, appends_more, high_range, IsWide}
use Rattle.wasm_leb.proofs.signed.+push_signed.Goals as goal
use Rattle.wasm_leb.proofs.signed.+push_signed.Goals.{else-v-geminus64-via-then-v-geminus64+else-v-lt64, else-v-geminus64-via-else-v-geminus64}

pub returns-then-v-lt64-clause-ok : goal.returns-then-v-lt64-clause-ok
returns-then-v-lt64-clause-ok t c =
    let value = rw (to_z-of_z w64 c.args.v c.ranges.v) at c.split-low.ensures.value in
    λ n range. (_, shortest_last n c.args.v c.split-low.result.1 c.split-low.result.0 c.split-low.ensures.low value (grind (arith, ints)) (grind (arith, ints)) range, c.in_ok-push.ensures.items)

pub returns-clause-ok : goal.returns-clause-ok
returns-clause-ok t c =
    let wide : IsWide c.args.v = elim c.else-v-geminus64.branch [
      | else-v-geminus64-via-then-v-geminus64+else-v-lt64 w ↦ record { wide = inr (grind (arith, ints, w.if-v-lt64.false)) }
      | else-v-geminus64-via-else-v-geminus64 w ↦ record { wide = inl (grind (arith, ints, w.if-v-geminus64.false)) }
    ] in
    let value = rw (to_z-of_z w64 c.args.v c.ranges.v) at c.split-low.ensures.value in
    let fits : FitsSigned w64 c.split-low.result.1 = search rules in
    let written = rw (to_z-of_z w64 c.split-low.result.1 fits) at c.push_signed.ensures.ok in
    on_ok_weaker c.push_signed.result
    (λ rest n range.
    appends_more _ _ _ n c.args.v c.split-low.result.1 c.split-low.result.0 c.split-low.ensures.low value wide range c.in_ok-push-2.ensures.items
    (rest (n - 7) (high_range n c.args.v c.split-low.result.1 c.split-low.result.0 c.split-low.ensures.low value wide range)))
    written

pub returns-clause-err : goal.returns-clause-err
returns-clause-err t c = on_err_weaker c.push_signed.result (kept_before _ _ _ _ c.in_ok-push-2.ensures.items) c.push_signed.ensures.err
