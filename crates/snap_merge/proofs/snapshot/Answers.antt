use Rattle.merge_module.specs.Laws.{IsMergeable}
use Rattle.snap_merge.proofs.Answered.{little_of}
use Rattle.snap_merge.proofs.snapshot.Goals as goal

pub returns-clause-little : goal.returns-clause-little
returns-clause-little c =
    let L = c.args.linked.now in
    let known : IsMergeable L = record { shape = c.links.ensures.shape; links = c.links.ensures.links; pages = c.has_few_pages.ensures; hosts = c.hosts_have_integers.ensures.supported } in
    λ id x few types. little_of c.snapshots_are_short.ensures L known c.hold_bytes.ensures c.args.most id x few types

pub returns-in_err-store-clause-little : goal.returns-in_err-store-clause-little
returns-in_err-store-clause-little c =
    let L = c.args.linked.now in
    let known : IsMergeable L = record { shape = c.links.ensures.shape; links = c.links.ensures.links; pages = c.has_few_pages.ensures; hosts = c.hosts_have_integers.ensures.supported } in
    λ id x few types. little_of c.snapshots_are_short.ensures L known c.hold_bytes.ensures c.args.most id x few types
