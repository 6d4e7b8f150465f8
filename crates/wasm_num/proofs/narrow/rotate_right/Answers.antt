use Rattle.std.proofs.Common.{rules, ◌∙◌}
use Rattle.wasm_num.proofs.narrow.rotate_right.Goals as goal
use Rattle.wasm_num.proofs.Rotations.{rotr_32}

pub returns : goal.returns
returns c = c.rotate_right.ensures ∙ rotr_32 c.args.a c.args.b (search rules)
