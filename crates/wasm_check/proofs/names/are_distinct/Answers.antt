use Rattle.wasm_check.proofs.Distinct.{name_told_again, name_told_once, name_added, not_true, not_false, not_distinct, all_told_once}
use Rattle.std.proofs.Common.{arith, sym}
use Rattle.wasm_check.proofs.names.are_distinct.Goals as goal

pub returns-then-not-branch : goal.returns-then-not-branch
returns-then-not-branch c =
    let told = not_false _ _ c.in_ok-insert.ensures.added c.if-not-branch.true (c.loop-export.invariant.has c.as_str.result) in
    sym (not_distinct c.args.exports.now (λ d. name_told_again c.args.exports.now c.loop-export.export-index c.export-item.result
    c.as_str.result.now c.loop-export-test.true c.export-item.is c.as_str.ensures told d))

pub loop-export-preserved : goal.loop-export-preserved
loop-export-preserved c =
    let told = not_true _ _ c.in_ok-insert.ensures.added c.if-not-branch.false (c.loop-export.invariant.has c.as_str.result) in
    record {
      has = λ q. name_added c.args.exports.now c.loop-export.export-index c.export-item.result c.as_str.result.now c.loop-export-test.true
          c.export-item.is c.as_str.ensures q.now _ _ (c.loop-export.invariant.has q) (c.in_ok-insert.ensures.updates.0 q);
      distinct = name_told_once c.args.exports.now c.loop-export.export-index c.export-item.result c.as_str.result.now
          c.loop-export-test.true c.export-item.is c.as_str.ensures told c.loop-export.invariant.distinct;
    }

pub returns : goal.returns
returns c = sym (all_told_once c.args.exports.now c.loop-export.export-index (omega arith) c.loop-export.invariant.distinct)
