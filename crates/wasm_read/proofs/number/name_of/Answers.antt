use Rattle.wasm_read.proofs.Fronts.{name_read, no_name}
use Rattle.wasm_read.proofs.number.name_of.Goals as goal

pub returns-in_ok-from_str-in-Ok-clause-reads : goal.returns-in_ok-from_str-in-Ok-clause-reads
returns-in_ok-from_str-in-Ok-clause-reads c =
    rw (c.of.ensures, c.in_ok-from_str-in-Ok.ensures.ok, c.in-Ok.ensures.cases.0) (name_read c.args.bytes.now c.in_ok-name.name.now c.in_ok-name.rest.now c.in_ok-name.ensures.reads c.in-Ok.ensures.cases.1)

pub returns-in-Err-clause-reads : goal.returns-in-Err-clause-reads
returns-in-Err-clause-reads c = no_name c.args.bytes.now c.in_ok-name.name.now c.in_ok-name.rest.now c.in_ok-name.ensures.reads c.in-Err.ensures.cases.0
