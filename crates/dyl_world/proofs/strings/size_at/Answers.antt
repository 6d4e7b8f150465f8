use Rattle.std.proofs.Common.{◌≡◌, ◌+◌, ◌-◌, length, drop, arith}
use Rattle.dyl_world.proofs.Pieces.{more_plain, found, ends, piece_here, piece_fits}
use Rattle.dyl_world.proofs.strings.size_at.Goals as goal

pub returns-in-Some-clause-value : goal.returns-in-Some-clause-value
returns-in-Some-clause-value c =
    let at = c.args.at in
    let place = c.loop-place.place in
    let rest = c.rest_of_page-rest.result.now in
    found (drop at c.args.memory.now.bytes) (place - at) c.loop-place.invariant.1 rest (piece_here c.args.memory.now.bytes rest at place c.loop-place.invariant.0 c.rest_of_page-rest.ensures.value) c.are_loaded.ensures c.in-Some.last.now c.in-Some.ensures

pub returns-in-Some-clause-within : goal.returns-in-Some-clause-within
returns-in-Some-clause-within c =
    let end = (ends c.rest_of_page-rest.result.now c.in-Some.last.now c.in-Some.ensures).inside in
    let fits = piece_fits c.args.memory.now.bytes c.rest_of_page-rest.result.now c.loop-place.place c.rest_of_page-rest.ensures.value in
    let test = c.loop-place-test.true in
    omega (arith, c.loop-place.invariant.0, c.size.ensures.whole)

pub returns-in-Some-clause-most : goal.returns-in-Some-clause-most
returns-in-Some-clause-most c =
    let end = (ends c.rest_of_page-rest.result.now c.in-Some.last.now c.in-Some.ensures).inside in
    let fits = piece_fits c.args.memory.now.bytes c.rest_of_page-rest.result.now c.loop-place.place c.rest_of_page-rest.ensures.value in
    let test = c.loop-place-test.true in
    omega (arith, c.loop-place.invariant.0, c.size.ensures.whole, c.size.ensures.within, c.size.ensures.most)

pub loop-place-preserved : goal.loop-place-preserved
loop-place-preserved c =
    let at = c.args.at in
    let place = c.loop-place.place in
    let rest = c.rest_of_page-rest.result.now in
    let sum : place - at + length rest ≡ place + length rest - at = omega (arith, c.loop-place.invariant.0) in
    let more = more_plain (drop at c.args.memory.now.bytes) (place - at) c.loop-place.invariant.1 rest (piece_here c.args.memory.now.bytes rest at place c.loop-place.invariant.0 c.rest_of_page-rest.ensures.value) c.are_loaded.ensures c.in-None.ensures in
    (omega (arith, c.loop-place.invariant.0), rw (← sum) more)
