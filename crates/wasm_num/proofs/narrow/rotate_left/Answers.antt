use Rattle.std.proofs.Common.{rules, ◌∙◌}
use Rattle.wasm_num.proofs.narrow.rotate_left.Goals as goal
use Rattle.wasm_num.proofs.Rotations.{rotl_32}

pub returns : goal.returns
returns c = c.rotate_left.ensures ∙ rotl_32 c.args.a c.args.b (search rules)
