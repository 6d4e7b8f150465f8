use Rattle.std.proofs.Common.{◌<◌, ◌≡◌, length, rules}
use Rattle.spec_traces.specs.Reading.{front_byte, digits_as_bytes}
use Rattle.replay_text.proofs.Loops.{digits_first, front_goes, front_fails, digits_end}
use Rattle.replay_text.proofs.bytes.digits_as_bytes.Goals as goal

pub loop-rest-preserved : goal.loop-rest-preserved
loop-rest-preserved c =
    let some : 0 < length c.loop-rest.rest.now = search rules in
    rw c.in_ok-push-in-Some.ensures.items
    (front_goes front_byte digits_as_bytes digits_first c.loop-rest.bytes.items c.loop-rest.rest.now c.in-Some.b c.in-Some.behind.now (digits_as_bytes c.args.word.now) some c.in-Some.ensures.is c.loop-rest.invariant)

pub returns-in-None : goal.returns-in-None
returns-in-None c =
    let some : 0 < length c.loop-rest.rest.now = search rules in
    front_fails front_byte digits_as_bytes digits_first c.loop-rest.bytes.items c.loop-rest.rest.now (digits_as_bytes c.args.word.now) some c.in-None.ensures.is c.loop-rest.invariant

pub returns : goal.returns
returns c =
    let none : length c.loop-rest.rest.now ≡ 0 = search rules in
    digits_end c.loop-rest.bytes.items c.loop-rest.rest.now (digits_as_bytes c.args.word.now) none c.loop-rest.invariant
