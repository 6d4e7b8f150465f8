use Rattle.std.proofs.Common.{◌<◌, ◌≡◌, length, rules}
use Rattle.spec_traces.specs.Reading.{front_of, unescaped}
use Rattle.replay_text.proofs.Loops.{name_first, front_goes, front_fails, name_end}
use Rattle.replay_text.proofs.names.unescaped.Goals as goal

pub loop-rest-preserved : goal.loop-rest-preserved
loop-rest-preserved c =
    let some : 0 < length c.loop-rest.rest.now = search rules in
    rw c.in_ok-push-in-Some.ensures.items
    (front_goes front_of unescaped name_first c.loop-rest.bytes.items c.loop-rest.rest.now c.in-Some.b c.in-Some.behind.now (unescaped c.args.word.now) some c.in-Some.ensures.is c.loop-rest.invariant)

pub returns-in-None : goal.returns-in-None
returns-in-None c =
    let some : 0 < length c.loop-rest.rest.now = search rules in
    front_fails front_of unescaped name_first c.loop-rest.bytes.items c.loop-rest.rest.now (unescaped c.args.word.now) some c.in-None.ensures.is c.loop-rest.invariant

pub returns : goal.returns
returns c =
    let none : length c.loop-rest.rest.now ≡ 0 = search rules in
    name_end c.loop-rest.bytes.items c.loop-rest.rest.now (unescaped c.args.word.now) none c.loop-rest.invariant
