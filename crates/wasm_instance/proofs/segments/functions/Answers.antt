use Rattle.std.proofs.Common.{◌≤◌, ◌∙◌, length, Some, arith}
use Rattle.wasm_instance.specs.Imports.{function_after}
use Rattle.wasm_instance.proofs.Lists.{all_mapped}
use Rattle.wasm_instance.proofs.ConstantValues.{targets_are}
use Rattle.wasm_instance.proofs.segments.functions.Goals as goal

pub returns : goal.returns
returns c =
    let past : length c.args.numbers.now ≤ c.loop-f.f-index = grind arith in
    all_mapped (λ f. Some (function_after c.args.imported f)) c.loop-f.all.items c.args.numbers.now c.loop-f.f-index past c.loop-f.invariant
    ∙ targets_are c.args.m.now c.args.imported c.requires.source c.args.numbers.now c.requires.functions
