use Rattle.std.proofs.Common.{rules, ◌∙◌}
use Rattle.wasm_num.proofs.wide.rotate_left.Goals as goal
use Rattle.wasm_num.proofs.Rotations.{rotl_64}

pub returns : goal.returns
returns c = c.rotate_left.ensures ∙ rotl_64 c.args.a c.args.b (search rules)
