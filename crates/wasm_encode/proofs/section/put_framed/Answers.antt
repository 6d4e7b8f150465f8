use Rattle.spec_reading.proofs.of_spec_binary.Joined.{on_ok}
use Rattle.wasm_encode.proofs.SectionForms.{framed}
use Rattle.wasm_encode.proofs.section.put_framed.Goals as goal

pub returns-clause-ok : goal.returns-clause-ok
returns-clause-ok c = on_ok c.put_sized.result (framed c.args.id c.args.contents.now _ c.push.new.self.items _ c.in_ok-push.ensures.items) c.put_sized.ensures.ok
