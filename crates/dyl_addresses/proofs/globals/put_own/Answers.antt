use Rattle.std.proofs.Common.{◌≡◌, ℕ, ◌+◌, ◌-◌, ◌++◌, ◌∷◌, [], map, Some, sym, ap, ◌∙◌, append_assoc, arith}
use Rattle.std.specs.List.{range_with_len}
use Rattle.std.proofs.lemmas.List.FromFn.{map-range_with_len_more}
use Rattle.dyl_addresses.proofs.globals.put_own.Goals as goal

pub loop-a-preserved : goal.loop-a-preserved
loop-a-preserved c =
    let a = c.loop-a.a in
    let start = c.args.start in
    let next : a - start + 1 ≡ a + 1 - start = omega (arith, c.loop-a.auto.a) in
    let last : start + (a - start) ≡ a = omega (arith, c.loop-a.auto.a) in
    c.in_ok-push.ensures.items
    ∙ ap (λ l. l ++ Some a ∷ []) c.loop-a.invariant
    ∙ append_assoc c.args.to.now.items (map Some (range_with_len start (a - start))) (Some a ∷ [])
    ∙ ap (λ l. c.args.to.now.items ++ l) (sym (map-range_with_len_more Some start (a - start) a last) ∙ ap (λ (n : ℕ). map Some (range_with_len start n)) next)
