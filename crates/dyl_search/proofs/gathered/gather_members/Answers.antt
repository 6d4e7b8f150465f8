use Rattle.std.proofs.Common.{Option, Err, sym, subst}
use Rattle.std.proofs.lemmas.Result.{err_from_is_err_and}
use Rattle.dyl_outside.specs.FileMap.{FileMap}
use Rattle.dyl_search.specs.Absents.{CountsFor}
use Rattle.dyl_search.specs.Gathers.{options_of, Counted}
use Rattle.dyl_search.proofs.gathered.gather_members.Goals as goal

pub returns-in_err-step-clause-broken : goal.returns-in_err-step-clause-broken
returns-in_err-step-clause-broken g c = λ start counted.
    let P : Option FileMap → Type 0 = λ told. Counted told c.args.o.now c.members.g start (g.F.Files.seen c.members.files).absents in
    let Q : Option FileMap → Type 0 = λ told. CountsFor told (options_of c.args.o.now) (Err c.in_err-step.field-0.0) start (g.F.Files.seen c.step.new.files).absents in
    let p = err_from_is_err_and c.from_residual.result c.from_residual.ensures.1 in
    rw (p.1, p.2) (subst Q c.members.invariant.told (c.in_err-step.ensures.broken start (subst P (sym c.members.invariant.told) (c.members.invariant.counted start counted))))
