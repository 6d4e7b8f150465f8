use Rattle.std.proofs.Common.{rules, tests}
use Rattle.std.proofs.lemmas.Iterator.{YieldsList-from_slice}
use Rattle.std.proofs.lemmas.Iterator.Search.{all_from_yields_List}
use Rattle.spec_reading.specs.Sections.{leaves_data}
use Rattle.wasm_decode.proofs.counts.is_data_counted.Goals as goal

pub returns-in-None : goal.returns-in-None
returns-in-None c =
    rw c.in-None.is (all_from_yields_List leaves_data _ _ _ c.all.ensures.ran (YieldsList-from_slice c.args.m.now.codes cc) (λ x b q k. search (rules, tests)))
