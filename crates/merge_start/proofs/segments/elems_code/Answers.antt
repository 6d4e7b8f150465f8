use Rattle.std.proofs.Common.{arith}
use Rattle.spec_loading.specs.spec_execution.Segments.{elem_effects}
use Rattle.dyl_addresses.specs.Offsets.{number_with}
use Rattle.merge_start.specs.Listed.{numbers_at}
use Rattle.merge_start.proofs.Effects.{one_more}
use Rattle.merge_start.proofs.segments.elems_code.Goals as goal

pub loop-e-preserved : goal.loop-e-preserved
loop-e-preserved c =
    one_more (numbers_at c.args.n.now c.args.at) (elem_effects (number_with c.args.bases.now)) c.args.elems.now c.loop-e.e c.index-elems-e.result
    c.loop-e.code.items c.in_ok-one.one.items c.append.new.self.items _
    (omega (arith, c.loop-e-test.true)) c.index-elems-e.is c.in_ok-one.ensures c.in_ok-append.ensures.items c.loop-e.invariant
