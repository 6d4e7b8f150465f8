use Rattle.std.proofs.Common.{◌≡◌, ◌+◌, ◌-◌, ◌++◌, ◌∷◌, [], sym, ap, ◌∙◌, append_assoc, arith}
use Rattle.std.specs.List.{range_with_len}
use Rattle.dyl_addresses.proofs.Items.{range_more}
use Rattle.dyl_addresses.proofs.lists.put_range.Goals as goal

pub loop-n-preserved : goal.loop-n-preserved
loop-n-preserved c =
    let n = c.loop-n.n in
    let start = c.args.start in
    let next : n - start + 1 ≡ n + 1 - start = omega (arith, c.loop-n.auto.n) in
    let last : start + (n - start) ≡ n = omega (arith, c.loop-n.auto.n) in
    c.in_ok-push.ensures.items
    ∙ ap (λ l. l ++ n ∷ []) c.loop-n.invariant
    ∙ append_assoc c.args.to.now.items (range_with_len start (n - start)) (n ∷ [])
    ∙ ap (λ l. c.args.to.now.items ++ l) (sym (range_more start (n - start) n last) ∙ ap (range_with_len start) next)
