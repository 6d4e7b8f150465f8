use Rattle.std.proofs.Common.{arith}
use Rattle.std.proofs.lemmas.Result.{err_from_is_err_and}
use Rattle.spec_reading.specs.Values.{items_at}
use Rattle.wasm_read.proofs.Loops.{items_begin, items_go_on, items_fail, items_end}
use Rattle.wasm_read.proofs.sequence.items_of.Goals as goal

pub loop-init : goal.loop-init
loop-init g c = record {
  read = rw c.new-items.ensures.items (items_begin g.T.Item.at c.args.count c.args.bytes.now);
  shorter = omega arith;
}

pub returns-in_err-x-clause-reads : goal.returns-in_err-x-clause-reads
returns-in_err-x-clause-reads g c =
    let p = err_from_is_err_and c.from_residual.result c.from_residual.ensures.1 in
    rw (p.1, p.2) (items_fail g.T.Item.at c.in_err-x.field-0.0 c.loop.items.items c.args.count c.loop.counter c.loop.rest.now (items_at g.T.Item.at c.args.count c.args.bytes.now) c.loop-test.true c.in_err-x.ensures.reads c.loop.invariant.read)

pub loop-preserved : goal.loop-preserved
loop-preserved g c = record {
  read = rw c.in_ok-push.ensures.items (items_go_on g.T.Item.at c.loop.items.items c.args.count c.loop.counter c.loop.rest.now c.in_ok-x.x c.in_ok-x.after.now (items_at g.T.Item.at c.args.count c.args.bytes.now) c.loop-test.true c.in_ok-x.ensures.reads c.loop.invariant.read);
  shorter = omega (arith, c.in_ok-x.ensures.shorter);
}

pub returns-clause-reads : goal.returns-clause-reads
returns-clause-reads g c = items_end g.T.Item.at c.loop.items.items c.args.count c.loop.counter c.loop.rest.now (items_at g.T.Item.at c.args.count c.args.bytes.now) c.loop-test.false c.loop.invariant.read
