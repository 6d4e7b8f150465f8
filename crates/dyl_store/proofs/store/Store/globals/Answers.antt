use Rattle.std.proofs.Common.{sym, ap, ◌∙◌}
use Rattle.spec_loading.specs.spec_execution.Instances.{ModuleParts}
use Rattle.dyl_store.specs.Worlds.{WorldState}
use Rattle.dyl_store.proofs.store.Store.globals.Goals as goal

pub returns : goal.returns
returns c = λ found.
    c.deref.ensures.value ∙ ap (λ (w : WorldState). w.store.globals) c.world.view_is ∙ ap (λ (us : ModuleParts). us.globals) (sym (c.bare.ensures.told found).at.units)
