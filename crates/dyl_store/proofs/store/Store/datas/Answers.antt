use Rattle.std.proofs.Common.{map, sym, ap, ◌∙◌}
use Rattle.spec_loading.specs.spec_execution.Instances.{ModuleParts}
use Rattle.dyl_store.specs.Worlds.{WorldState}
use Rattle.dyl_store.proofs.store.Store.datas.Goals as goal

pub returns : goal.returns
returns c = λ found.
    ap (map (λ d. d.now)) c.deref.ensures.value ∙ ap (λ (w : WorldState). w.store.datas) c.world.view_is ∙ ap (λ (us : ModuleParts). us.datas) (sym (c.bare.ensures.told found).at.units)
