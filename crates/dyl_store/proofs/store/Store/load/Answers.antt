use Rattle.std.proofs.Common.{sym, subst}
use Rattle.spec_loading.specs.spec_linking.LinkedSets.{LinkedSet}
use Rattle.spec_loading.specs.LoadedSet.{set_opening}
use Rattle.dyl_store.specs.Runs.{RunsAt}
use Rattle.dyl_store.proofs.SetRuns.{opens_so}
use Rattle.dyl_store.proofs.store.Store.load.Goals as goal

pub new-requires-clause-opens : goal.new-requires-clause-opens
new-requires-clause-opens c =
    let made = c.in_ok-running.ensures in
    let x = c.in_ok-running.running in
    λ o of. opens_so x (subst (λ (L : LinkedSet). RunsAt L x (set_opening L)) (sym made.linked) made.opened)
