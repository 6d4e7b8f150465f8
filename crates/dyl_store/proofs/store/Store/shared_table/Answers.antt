use Rattle.std.proofs.Common.{ap, ◌∙◌, arith}
use Rattle.spec_loading.specs.spec_execution.Instances.{ModuleParts}
use Rattle.spec_loading.specs.Members.{shared_table}
use Rattle.dyl_store.specs.Worlds.{WorldState}
use Rattle.dyl_store.proofs.Standing.{table_read}
use Rattle.dyl_store.proofs.store.Store.shared_table.Goals as goal

pub returns : goal.returns
returns c = λ found.
    let e = ap (λ (w : WorldState). w.store.tables) c.world.view_is in
    let sizes = c.world.invariant.sizes.tables in
    ap (λ (us : ModuleParts). shared_table us) (c.bare.ensures.told found).at.units ∙ table_read _ _ e (omega (arith, sizes)) c.index.result.now c.index.ensures
