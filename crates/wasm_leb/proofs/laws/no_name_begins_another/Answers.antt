use Rattle.spec_binary.proofs.NameSpelling.{one_name}
use Rattle.wasm_leb.proofs.laws.no_name_begins_another.Goals as goal

pub returns : goal.returns
returns c = one_name
