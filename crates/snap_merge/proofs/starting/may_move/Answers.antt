use Rattle.std.proofs.Common.{◌≡◌, ◌<◌, true, false, rules, ◌∙◌}
use Rattle.snap_merge.proofs.StartUp.{deep_is, cause_moving, cause_deep}
use Rattle.snap_merge.proofs.starting.may_move.Goals as goal

pub returns-then-deep-clause-says : goal.returns-then-deep-clause-says
returns-then-deep-clause-says c =
    let v = c.args.store.now in
    let few : c.args.store.now.run.steps < c.args.most = search rules in
    let on : c.deep.result ≡ true = search rules in
    cause_deep v.linked c.args.most v.run.steps c.requires.unstarted c.requires.moving few
    (deep_is v.linked c.args.most v c.requires.starting c.requires.moving c.deep.result (c.deep.ensures c.requires.starting.found) ∙ on)

pub returns-clause-may : goal.returns-clause-may
returns-clause-may c =
    let v = c.args.store.now in
    let few : c.args.store.now.run.steps < c.args.most = search rules in
    let off : c.deep.result ≡ false = search rules in
    let flat = deep_is v.linked c.args.most v c.requires.starting c.requires.moving c.deep.result (c.deep.ensures c.requires.starting.found) ∙ off in
    (c.requires.moving, flat, cause_moving v.linked c.args.most v.run.steps c.requires.unstarted c.requires.moving few flat)
