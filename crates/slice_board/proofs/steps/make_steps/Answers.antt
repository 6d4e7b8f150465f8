use Rattle.std.proofs.Common.{None, inr, ◌∙◌, arith}
use Rattle.std.proofs.lemmas.Result.{err_from_is_err_and}
use Rattle.slice_board.specs.Steps.{GoesOn}
use Rattle.slice_board.proofs.Going.{round_lost, round_goes}
use Rattle.slice_board.proofs.steps.make_steps.Goals as goal

pub returns-in_err-why-clause-lost : goal.returns-in_err-why-clause-lost
returns-in_err-why-clause-lost c =
    let i = c.loop-why.invariant in
    let p = err_from_is_err_and c.from_residual.result c.from_residual.ensures.1 in
    rw p.1 (round_lost c.args.most c.args.until c.args.store.now c.loop-why.store c.go_on.new.store i.linked i.along i.begun c.in_err-why.ensures.lost)

pub returns-in-Some-clause-stops : goal.returns-in-Some-clause-stops
returns-in-Some-clause-stops c =
    let i = c.loop-why.invariant in
    round_goes c.args.most c.args.until c.args.store.now c.loop-why.store c.go_on.new.store i.linked i.along i.begun _ (rw c.in-Some.is at c.in_ok-why.ensures.goes)

pub loop-why-preserved : goal.loop-why-preserved
loop-why-preserved c =
    let i = c.loop-why.invariant in
    let goes : GoesOn c.args.most c.args.until None c.loop-why.store c.go_on.new.store = rw c.in_default.is at c.in_ok-why.ensures.goes in
    let on = round_goes c.args.most c.args.until c.args.store.now c.loop-why.store c.go_on.new.store i.linked i.along i.begun None goes in
    record { linked = c.in_ok-why.ensures.linked ∙ i.linked; along = on.along; begun = inr (on.found, on.still) }

pub loop-why-smaller : goal.loop-why-smaller
loop-why-smaller c =
    let goes : GoesOn c.args.most c.args.until None c.loop-why.store c.go_on.new.store = rw c.in_default.is at c.in_ok-why.ensures.goes in
    let few = goes.along.few in
    let more = goes.stops in
    omega arith
