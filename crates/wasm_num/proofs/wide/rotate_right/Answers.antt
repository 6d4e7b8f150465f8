use Rattle.std.proofs.Common.{rules, ◌∙◌}
use Rattle.wasm_num.proofs.wide.rotate_right.Goals as goal
use Rattle.wasm_num.proofs.Rotations.{rotr_64}

pub returns : goal.returns
returns c = c.rotate_right.ensures ∙ rotr_64 c.args.a c.args.b (search rules)
