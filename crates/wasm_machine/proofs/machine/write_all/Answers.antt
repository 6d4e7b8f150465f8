use Rattle.std.proofs.Common.{◌∙◌, sym}
use Rattle.wasm_machine.proofs.Answering.{not_err, put_inside, writes_left, writes_lead}
use Rattle.wasm_machine.proofs.machine.write_all.Goals as goal

pub unreachable-requires : goal.unreachable-requires
unreachable-requires g c =
    let put = put_inside c.args.writes.now c.loop-write.write-index c.write-item.result (g.V.View.seen c.loop-write.view).memory c.loop-write-test.true c.write-item.is c.loop-write.invariant.fit c.items.result.now c.memory_put.result (g.V.View.seen c.memory_put.new.self).memory c.items.ensures c.memory_put.ensures.memory in
    not_err c.memory_put.result tt put.0 (sym c.is_err.ensures.value ∙ c.if-is_err.true)

pub loop-write-preserved : goal.loop-write-preserved
loop-write-preserved g c =
    let ws = c.args.writes.now in
    let i = c.loop-write.write-index in
    let w = c.write-item.result in
    let m = (g.V.View.seen c.loop-write.view).memory in
    let put = put_inside ws i w m c.loop-write-test.true c.write-item.is c.loop-write.invariant.fit c.items.result.now c.memory_put.result (g.V.View.seen c.memory_put.new.self).memory c.items.ensures c.memory_put.ensures.memory in
    record {
      fit = rw put.1 (writes_left ws i w m c.loop-write-test.true c.write-item.is c.loop-write.invariant.fit);
      leads = rw put.1 (writes_lead ws i w m c.loop-write-test.true c.write-item.is c.loop-write.invariant.fit ∙ c.loop-write.invariant.leads);
      units = c.memory_put.ensures.others ∙ c.loop-write.invariant.units;
      fixed = c.memory_put.ensures.fixed ∙ c.loop-write.invariant.fixed;
    }
