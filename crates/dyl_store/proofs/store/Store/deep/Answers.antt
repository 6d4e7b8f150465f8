use Rattle.std.proofs.Common.{sym, ◌∙◌}
use Rattle.dyl_store.proofs.Standing.{deep_moving, deep_still}
use Rattle.dyl_store.proofs.store.Store.deep.Goals as goal

pub returns-in-Moving : goal.returns-in-Moving
returns-in-Moving c = λ found.
    let b = c.bare in
    deep_moving c.args.self.now b.result.now.running b.ensures.linked (b.ensures.told found).at (sym c.standing.ensures ∙ c.in-Moving.is) c.deep.result c.deep.ensures

pub returns-in_default : goal.returns-in_default
returns-in_default c = λ found.
    let b = c.bare in
    deep_still c.args.self.now b.result.now.running b.ensures.linked (b.ensures.told found).at (λ moving. c.in_default.not-Moving (c.standing.ensures ∙ moving))
