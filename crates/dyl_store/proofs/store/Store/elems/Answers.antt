use Rattle.std.proofs.Common.{map, sym, ap, ◌∙◌}
use Rattle.spec_loading.specs.spec_execution.Instances.{ModuleParts}
use Rattle.dyl_store.specs.Worlds.{WorldState}
use Rattle.dyl_store.proofs.store.Store.elems.Goals as goal

pub returns : goal.returns
returns c = λ found.
    ap (map (λ v. v.items)) c.deref.ensures.value ∙ ap (λ (w : WorldState). w.store.elems) c.world.view_is ∙ ap (λ (us : ModuleParts). us.elems) (sym (c.bare.ensures.told found).at.units)
