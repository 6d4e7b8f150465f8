use Rattle.std.proofs.Common.{◌≡◌, Some, refl, sym, ap, subst}
use Rattle.spec_loading.specs.spec_binary.Indices.{nullary}
use Rattle.spec_loading.specs.spec_execution.Views.{View, type_of}
use Rattle.spec_loading.specs.spec_execution.Instances.{ModuleParts}
use Rattle.spec_loading.specs.LoadedSet.{set_loading}
use Rattle.dyl_store.proofs.Loads.{loaded, serves}
use Rattle.dyl_store.proofs.running.Running.deep.Goals as goal

pub is_deep-requires : goal.is_deep-requires
is_deep-requires c κs =
    let running = c.requires.running in
    let callable = subst (λ (V : View ModuleParts). type_of V c.entry_of.result ≡ Some nullary) (sym running.fixed) c.entry_of.ensures.nullary in
    ((refl, tt), (running.core, (c.requires.moving, (running.members, ((λ r. ap (λ (V : View ModuleParts). type_of V r) running.fixed), callable)))))

pub returns : goal.returns
returns c =
    let L = c.args.self.now.linked.now in
    c.is_deep.ensures (set_loading L) (loaded c.args.self.now c.requires.running) (serves L c.entry_of.result c.entry_of.ensures.is)
