use Rattle.std.proofs.Common.{length}
use Rattle.wasm_decode.proofs.Headers.{header_found, no_header, rest_shorter}
use Rattle.wasm_decode.proofs.file.all_sections.Goals as goal

pub returns-in-Some : goal.returns-in-Some
returns-in-Some c =
    let bytes = c.args.bytes.now in
    let rest = c.in-Some.rest.now in
    rw (header_found bytes rest c.in-Some.ensures.found) (c.sections_of.ensures (length bytes) (rest_shorter bytes rest c.in-Some.ensures.found))

pub returns-in-None : goal.returns-in-None
returns-in-None c = no_header c.args.bytes.now c.in-None.ensures.none
