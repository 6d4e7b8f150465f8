use Rattle.spec_reading.proofs.of_spec_binary.Joined.{if_ok}
use Rattle.wasm_encode.proofs.Begun.{begun_header, customs_begun, placed_short}
use Rattle.wasm_encode.proofs.SectionSteps.{customs_too_long}
use Rattle.wasm_encode.proofs.module.put_first_customs.Goals as goal

pub put_customs-requires : goal.put_customs-requires
put_customs-requires c = rw c.items.ensures (placed_short c.requires.formed.customs)

pub returns-clause-ok : goal.returns-clause-ok
returns-clause-ok c =
    let b = begun_header c.args.m.now c.args.to.now.items c.requires.formed.customs c.requires.begun in
    let added = rw c.items.ensures at c.put_customs.ensures.ok in
    if_ok c.put_customs.result (λ rest a. customs_begun b a) added

pub returns-clause-long : goal.returns-clause-long
returns-clause-long c = λ id e.
    let b = begun_header c.args.m.now c.args.to.now.items c.requires.formed.customs c.requires.begun in
    let long = rw c.items.ensures at (c.put_customs.ensures.long id e) in
    customs_too_long b id long
