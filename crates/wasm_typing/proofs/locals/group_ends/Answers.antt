use Rattle.std.proofs.Common.{arith, ◌≡◌, ℕ, ◌+◌, ◌<◌, length, length-append, ap}
use Rattle.wasm_typing.specs.GroupEnds.{end_of}
use Rattle.wasm_typing.proofs.LocalSearch.{ends_more, end_next}
use Rattle.wasm_typing.proofs.locals.group_ends.Goals as goal

pub loop-group-preserved : goal.loop-group-preserved
loop-group-preserved c =
    let added : c.saturating_add-end.result ≡ end_of c.args.groups.now c.loop-group.group-index
    = end_next c.args.groups.now c.loop-group.group-index _ c.loop-group.end c.from.result c.saturating_add-end.result
    c.loop-group-test.true c.loop-group.invariant.end c.from.ensures c.saturating_add-end.ensures in
    record {
      count = omega (arith, simp length-append at (ap length c.in_ok-push.ensures.items));
      end = added;
      each = λ (k : ℕ) (h : k < c.loop-group.group-index + 1).
          rw c.in_ok-push.ensures.items (ends_more c.args.groups.now c.loop-group.ends.items c.loop-group.group-index
          c.saturating_add-end.result c.loop-group.invariant.count c.loop-group.invariant.each added k h);
    }
