use Rattle.std.proofs.lemmas.Result.{err_from_is_err_and}
use Rattle.dyl_search.specs.Gathers.{options_of}
use Rattle.dyl_search.proofs.Beginning.{ends, counts_none, begins_lost, ends_lost, ends_counts}
use Rattle.dyl_search.proofs.GatheredSet.{has_shape}
use Rattle.dyl_search.proofs.gathered.gathered_set.Goals as goal

pub returns-clause-answer : goal.returns-clause-answer
returns-clause-answer g c =
    ends (g.F.Files.seen c.args.files.now).told c.args.o.now c.gather_members.new.g c.in_ok-set.set c.in-Ok.ensures.stands c.in-Ok.ensures.all c.in_ok-set.ensures

pub returns-clause-set : goal.returns-clause-set
returns-clause-set g c =
    has_shape (g.F.Files.seen c.args.files.now).told c.args.o.now c.gather_members.new.g c.in_ok-set.set c.in-Ok.ensures.stands c.in-Ok.ensures.all c.in_ok-set.ensures

pub returns-in_err-g-clause-broken : goal.returns-in_err-g-clause-broken
returns-in_err-g-clause-broken g c =
    let p = err_from_is_err_and c.from_residual.result c.from_residual.ensures.1 in
    rw (p.1, p.2) (begins_lost (g.F.Files.seen c.args.files.now).told (options_of c.args.o.now) (g.F.Files.seen c.args.files.now).absents)

pub returns-in-Err-clause-broken : goal.returns-in-Err-clause-broken
returns-in-Err-clause-broken g c =
    let told = (g.F.Files.seen c.args.files.now).told in
    let now = (g.F.Files.seen c.args.files.now).absents in
    c.in-Err.ensures.broken now (counts_none told c.args.o.now c.in_ok-g.g now c.in_ok-g.ensures.none)

pub returns-in_err-set-clause-broken : goal.returns-in_err-set-clause-broken
returns-in_err-set-clause-broken g c =
    let told = (g.F.Files.seen c.args.files.now).told in
    let now = (g.F.Files.seen c.args.files.now).absents in
    let p = err_from_is_err_and c.from_residual-in_err-set.result c.from_residual-in_err-set.ensures.1 in
    rw (p.1, p.2) (ends_lost told c.args.o.now c.gather_members.new.g now (g.F.Files.seen c.gather_members.new.files).absents c.in-Ok.ensures.stands
    (c.in-Ok.ensures.tried now (counts_none told c.args.o.now c.in_ok-g.g now c.in_ok-g.ensures.none)))

pub returns-clause-tried : goal.returns-clause-tried
returns-clause-tried g c =
    let told = (g.F.Files.seen c.args.files.now).told in
    let now = (g.F.Files.seen c.args.files.now).absents in
    ends_counts told c.args.o.now c.gather_members.new.g c.in_ok-set.set now (g.F.Files.seen c.gather_members.new.files).absents c.in-Ok.ensures.stands c.in-Ok.ensures.all c.in_ok-set.ensures
    (c.in-Ok.ensures.tried now (counts_none told c.args.o.now c.in_ok-g.g now c.in_ok-g.ensures.none))

pub gather_members-requires : goal.gather_members-requires
gather_members-requires g c = c.in_ok-g.ensures.stands (g.F.Files.seen c.args.files.now).told
