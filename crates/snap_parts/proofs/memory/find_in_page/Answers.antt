use Rattle.std.proofs.Common.{◌<◌, length, arith}
use Rattle.snap_parts.proofs.Putting.{rest_within, rest_item}
use Rattle.snap_parts.proofs.memory.find_in_page.Goals as goal

pub note_byte-requires-clause-inside : goal.note_byte-requires-clause-inside
note_byte-requires-clause-inside c =
    (let few = rest_within c.args.memory.now.bytes c.args.at c.rest_of_page-rest.result.now c.rest_of_page-rest.ensures.value in omega arith)

pub note_byte-requires-clause-is : goal.note_byte-requires-clause-is
note_byte-requires-clause-is c =
    let lt : c.loop-byte.byte-index < length c.rest_of_page-rest.result.now = omega arith in
    rest_item c.args.memory.now.bytes c.args.at c.rest_of_page-rest.result.now 0 c.rest_of_page-rest.ensures.value c.loop-byte.byte-index lt
    c.loop-byte.i c.loop-byte.invariant.at

pub returns-clause-inside : goal.returns-clause-inside
returns-clause-inside c =
    (let few = rest_within c.args.memory.now.bytes c.args.at c.rest_of_page-rest.result.now c.rest_of_page-rest.ensures.value in omega arith)
