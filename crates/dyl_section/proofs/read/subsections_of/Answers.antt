use Rattle.std.proofs.Common.{arith, get_or}
use Rattle.std.proofs.lemmas.List.{nil_from_length}
use Rattle.dyl_section.specs.Reading.{seen}
use Rattle.dyl_section.proofs.Loop.{loop_begins, loop_ends, loop_goes_on, loop_fails}
use Rattle.spec_reading.proofs.of_spec_binary.Lists.{first_and_others}
use Rattle.dyl_section.proofs.read.subsections_of.Goals as goal

pub loop-rest-init : goal.loop-rest-init
loop-rest-init c = loop_begins (seen c.new-said.result) c.args.bytes.now c.new-said.ensures

pub returns-in-Err : goal.returns-in-Err
returns-in-Err c = rw c.fault_after.ensures
    (loop_fails c.in-Err.e (seen c.loop-rest.said) c.loop-rest.count (get_or c.loop-rest.rest.now 0 0) c.loop-rest.rest.now _ c.args.bytes.now (first_and_others c.loop-rest.rest.now c.in-len1-up.len_at_least) c.in-Err.ensures.reads c.loop-rest.invariant)

pub loop-rest-preserved : goal.loop-rest-preserved
loop-rest-preserved c =
    rw c.saturating_add-count.ensures (loop_goes_on (seen c.loop-rest.said) (seen c.in-Ok.more) c.loop-rest.count (get_or c.loop-rest.rest.now 0 0) c.loop-rest.rest.now _ c.in-Ok.next.now c.args.bytes.now (first_and_others c.loop-rest.rest.now c.in-len1-up.len_at_least) c.in-Ok.ensures.shorter c.in-Ok.ensures.reads c.loop-rest.invariant)

pub returns : goal.returns
returns c = rw c.finish.ensures (loop_ends (seen c.loop-rest.said) c.loop-rest.count c.loop-rest.rest.now c.args.bytes.now (nil_from_length _ (omega arith)) c.loop-rest.invariant)
