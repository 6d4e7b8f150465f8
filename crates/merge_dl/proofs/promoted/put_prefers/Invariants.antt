use Rattle.std.proofs.Common.{◌≡◌, ◌-◌, ◌++◌}
use Rattle.std.specs.Prelude.{not}
use Rattle.std.specs.List.{filter, range_with_len}
use Rattle.spec_loading.specs.spec_linking.Orders.{is_among}
use Rattle.merge_dl.specs.Words.{prefers_code}
use Rattle.merge_dl.specs.Listed.{starts_in, finders_in}
use Rattle.merge_dl.proofs.promoted.put_prefers.Given as goal

abbrev pub invariant-loop-k : goal.invariant-loop-k
invariant-loop-k l =
    l.to.items ++ prefers_code (starts_in l.n) (finders_in l.n) (filter (λ k. not (is_among k l.startup)) (range_with_len l.k (l.count - l.k)))
    ≡ l.fn.to.items ++ prefers_code (starts_in l.n) (finders_in l.n) (filter (λ k. not (is_among k l.startup)) (range_with_len 0 l.count))
