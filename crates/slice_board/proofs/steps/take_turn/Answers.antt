use Rattle.std.proofs.Common.{◌≡◌, ◌+◌, min, inl, inr, arith}
use Rattle.std.proofs.lemmas.Result.{err_from_is_err_and}
use Rattle.slice_board.proofs.Taking.{turn_made, turn_within}
use Rattle.slice_board.proofs.steps.take_turn.Goals as goal

pub returns-in_err-why-clause-lost : goal.returns-in_err-why-clause-lost
returns-in_err-why-clause-lost c =
    let old = c.args.seat.now.store in
    let new = c.make_steps.new.store in
    let p = err_from_is_err_and c.from_residual.result c.from_residual.ensures.1 in
    let least : c.min-until.result ≡ min c.args.seat.now.most (old.run.steps + c.args.slice) = omega (arith, c.min-until.ensures, c.saturating_add.ensures, c.steps-start.ensures.value) in
    rw p.1 (elim c.in_err-why.ensures.lost [
      | inl was ↦ inl was
      | inr lost ↦ inr (record {
        found = lost.0;
        lost = lost.1;
        answers = lost.2.answers;
        more = lost.2.more;
        within = turn_within c.args.slice c.args.seat.now.most c.min-until.result old new least lost.2;
        wanting = lost.3;
      })
    ])

pub returns-clause-made : goal.returns-clause-made
returns-clause-made c =
    let old = c.args.seat.now.store in
    let new = c.make_steps.new.store in
    let goes = c.in_ok-why.ensures.stops in
    let least : c.min-until.result ≡ min c.args.seat.now.most (old.run.steps + c.args.slice) = omega (arith, c.min-until.ensures, c.saturating_add.ensures, c.steps-start.ensures.value) in
    record {
      found = goes.found;
      taken =
          rw (c.steps.ensures.value, c.steps-start.ensures.value)
          (turn_made c.args.slice c.args.seat.now.most c.min-until.result old new least c.in_ok-why.why goes);
    }
