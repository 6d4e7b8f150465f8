use Rattle.std.proofs.Common.{arith}
use Rattle.spec_loading.specs.spec_execution.Segments.{data_effects}
use Rattle.dyl_addresses.specs.Offsets.{number_with}
use Rattle.merge_start.specs.Listed.{numbers_at}
use Rattle.merge_start.proofs.Effects.{one_more}
use Rattle.merge_start.proofs.segments.datas_code.Goals as goal

pub loop-d-preserved : goal.loop-d-preserved
loop-d-preserved c =
    one_more (numbers_at c.args.n.now c.args.at) (data_effects (number_with c.args.bases.now)) c.args.datas.now c.loop-d.d c.index-datas-d.result
    c.loop-d.code.items c.in_ok-one.one.items c.append.new.self.items _
    (omega (arith, c.loop-d-test.true)) c.index-datas-d.is c.in_ok-one.ensures c.in_ok-append.ensures.items c.loop-d.invariant
