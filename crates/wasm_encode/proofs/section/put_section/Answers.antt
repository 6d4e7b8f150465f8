use Rattle.std.proofs.Common.{refl, length, eqb-true, ◌∙◌, sym}
use Rattle.wasm_encode.specs.Written.{nothing}
use Rattle.spec_reading.proofs.of_spec_binary.Lists.{empty_list}
use Rattle.wasm_encode.proofs.section.put_section.Goals as goal

pub returns-then-is_empty-clause-ok : goal.returns-then-is_empty-clause-ok
returns-then-is_empty-clause-ok g c = nothing (empty_list c.args.items.now (eqb-true (length c.args.items.now) 0 (sym c.is_empty.ensures ∙ c.if-is_empty.true))) refl

pub returns-in-Ok-clause-ok : goal.returns-in-Ok-clause-ok
returns-in-Ok-clause-ok g c = c.in-Ok.ensures.ok
