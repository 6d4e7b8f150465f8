use Rattle.std.proofs.Common.{◌∙◌, ◌++◌, ◌∷◌, [], List, ℕ, ap₂, sym, arith, length}
use Rattle.std.proofs.lemmas.List.FromFn.{map-range_with_len_more}
use Rattle.dyl_scope.specs.Orders.{needed_in, closure_by}
use Rattle.dyl_scope.proofs.maker.closures_of.Goals as goal

pub loop-m-preserved : goal.loop-m-preserved
loop-m-preserved c =
    c.in_ok-push.ensures.items
    ∙ ap₂ (λ (ls : List (List ℕ)) (one : List ℕ). ls ++ one ∷ []) c.loop-m.invariant c.in_ok-found.ensures
    ∙ sym (map-range_with_len_more (closure_by (needed_in c.args.members.now) (length c.args.members.now)) 0 c.loop-m.m c.loop-m.m (omega arith))
