use Rattle.std.proofs.Common.{◌<◌, length, arith}
use Rattle.merge_dl.specs.Listed.{export_names}
use Rattle.merge_dl.proofs.Making.{flat_next}
use Rattle.merge_dl.proofs.finding.exported_names.Goals as goal

pub loop-e-preserved : goal.loop-e-preserved
loop-e-preserved c =
    let lt : c.loop-e.e-index < length c.args.exports.now = omega (arith, c.loop-e-test.true) in
    record {
      names = flat_next (export_names c.args.linked.now c.args.m) c.args.exports.now c.loop-e.e-index c.e-item.result lt c.e-item.is _ _ _
          c.in_ok-put_export.ensures.names c.loop-e.invariant.names;
      texts = c.in_ok-put_export.ensures.texts;
    }
