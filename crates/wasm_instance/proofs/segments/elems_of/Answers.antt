use Rattle.std.proofs.Common.{◌<◌, length, arith}
use Rattle.spec_safety.specs.spec_validation.Faults.{elem_fits}
use Rattle.wasm_instance.proofs.Lists.{all_at}
use Rattle.spec_safety.proofs.of_spec_validation.Parts.{parts_fit}
use Rattle.wasm_instance.proofs.segments.elems_of.Goals as goal

pub opened-requires-clause-fits : goal.opened-requires-clause-fits
opened-requires-clause-fits c =
    let m = c.args.m.now in
    let inside : c.loop-segment.segment-index < length m.elems = grind arith in
    all_at (elem_fits m) m.elems c.loop-segment.segment-index c.segment-item.result inside (cc) (parts_fit m c.requires.alone.valid).elems
