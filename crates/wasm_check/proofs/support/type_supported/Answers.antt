use Rattle.std.proofs.Common.{◌∙◌}
use Rattle.wasm_check.proofs.Unsupported.{type_at}
use Rattle.wasm_check.proofs.support.type_supported.Goals as goal

pub returns : goal.returns
returns c = c.is_true_or_past.ensures ∙ type_at c.args.m.now c.args.types.now c.args.t c.requires
