use Rattle.std.proofs.Common.{◌<◌, length, arith}
use Rattle.spec_safety.specs.spec_validation.Faults.{global_fits}
use Rattle.wasm_instance.proofs.Lists.{all_at}
use Rattle.spec_safety.proofs.of_spec_validation.Parts.{parts_fit}
use Rattle.wasm_instance.proofs.constants.globals_of.Goals as goal

pub global-requires-clause-fits : goal.global-requires-clause-fits
global-requires-clause-fits c =
    let m = c.args.m.now in
    let inside : c.loop-g.g-index < length m.globals = grind arith in
    all_at (global_fits m) m.globals c.loop-g.g-index c.g-item.result inside (cc) (parts_fit m c.requires.alone.valid).globals
