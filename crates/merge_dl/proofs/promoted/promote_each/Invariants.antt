use Rattle.std.proofs.Common.{◌≡◌, ◌++◌, drop}
use Rattle.std.specs.Prelude.{not}
use Rattle.std.specs.List.{filter}
use Rattle.spec_loading.specs.spec_linking.Orders.{is_among}
use Rattle.merge_start.specs.Words.{promote_each}
use Rattle.merge_dl.specs.Listed.{starts_in}
use Rattle.merge_dl.proofs.promoted.promote_each.Given as goal

abbrev pub invariant-loop-k : goal.invariant-loop-k
invariant-loop-k l =
    l.code.items ++ promote_each (starts_in l.n) (filter (λ k. not (is_among k l.startup)) (drop l.k-index l.members))
    ≡ promote_each (starts_in l.n) (filter (λ k. not (is_among k l.startup)) l.members)
