use Rattle.std.proofs.Common.{◌++◌, ap, ◌∙◌}
use Rattle.spec_binary.proofs.NameSpelling.{appends_name}
use Rattle.wasm_leb.proofs.name.put_name.Goals as goal

pub returns-in-Ok-clause-ok : goal.returns-in-Ok-clause-ok
returns-in-Ok-clause-ok c =
    appends_name _ c.put_u32.new.to.items _ c.args.name.now c.utf8.name c.in_ok-put_u32.ensures.ok
    (c.in-Ok.ensures.items ∙ ap (λ l. c.put_u32.new.to.items ++ l) c.as_bytes.ensures.value)
