use Rattle.spec_reading.proofs.of_spec_binary.Joined.{on_ok}
use Rattle.wasm_encode.proofs.Steps.{data_count_begun}
use Rattle.wasm_encode.proofs.module.put_data_count.Goals as goal

pub returns-clause-ok : goal.returns-clause-ok
returns-clause-ok c = on_ok c.put_number.result (λ a. data_count_begun c.requires.begun a) c.put_number.ensures.ok
