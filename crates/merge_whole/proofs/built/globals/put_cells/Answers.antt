use Rattle.std.proofs.Common.{◌<◌, ◌+◌, length, ap, arith}
use Rattle.dyl_addresses.specs.Globals.{cells_in}
use Rattle.merge_whole.proofs.GlobalLists.{cells_next}
use Rattle.merge_whole.proofs.built.globals.put_cells.Goals as goal

pub loop-i-preserved : goal.loop-i-preserved
loop-i-preserved c =
    let lt : c.loop-i.i-index < length c.args.imports.now = omega arith in
    record {
      put = cells_next c.args.linked.now c.args.m c.args.imports.now c.loop-i.i-index c.i-item.result lt c.i-item.is
          (cells_in c.loop-i.cells.keys) _ c.loop-i.g _ _ c.loop-i.to.items _ _
          c.in_ok-put_import.ensures.cells
          (ap (λ n. c.loop-i.g + n) c.is_global.ensures.is)
          c.cell_or_zero-value.ensures c.in_ok-put_import.ensures.put c.loop-i.invariant.put;
      at = (let before = c.loop-i.invariant.at in let one = c.is_global.ensures.few in omega arith);
    }
