use Rattle.spec_binary.proofs.NameSpelling.{some_shortest_name, one_shortest_name}
use Rattle.wasm_leb.proofs.laws.one_shortest_name.Goals as goal

pub returns : goal.returns
returns c = record { some = some_shortest_name; one = one_shortest_name }
